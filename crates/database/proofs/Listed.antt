-- The constraints of a file, put in one after another, are those of its state.
use Rattle.std.proofs.Common.{◌≡◌, ℕ, ◌+◌, ◌<◌, ◌≤◌, List, [], ◌∷◌, ◌++◌, length, get_or, take, refl, sym, ap, ◌∙◌, append_assoc, arith}
use Rattle.std.proofs.lemmas.List.{append-nil, length-take}
use Rattle.linear.specs.declared.constraint.Signed.{Signed}
use Rattle.linear.specs.Limits.{most_constraints}
use Rattle.normal_form.specs.Normal.{NormalConstraint}
use Rattle.proof_rules.specs.State.{State, id_limit}
use Rattle.proof_rules.proofs.FileForms.{forms_more, all_count, few_ids}
use Rattle.proof_rules.proofs.Numbering.{state_push}
use Rattle.database.specs.Database.{Constraints, pushed}
use Rattle.database.specs.File.{pushed_all, listed, AddsForms, AreOfFile}

constraints_of : State → Constraints
constraints_of s = record { live = s.live; next = s.next }

listed_push : (ns : List NormalConstraint) (n : NormalConstraint) → pushed n (listed ns) ≡ listed (ns ++ n ∷ [])
listed_push ns n = sym (ap (λ (s : State). record { live = s.live; next = s.next }) (state_push ns n))

listed_more : (ns here : List NormalConstraint) → pushed_all here (listed ns) ≡ listed (ns ++ here)
listed_more ns [] = ap listed (sym (append-nil ns))
listed_more ns (n ∷ here) =
    ap (pushed_all here) (listed_push ns n) ∙ listed_more (ns ++ n ∷ []) here ∙ ap listed (append_assoc ns (n ∷ []) here)

pub file_more : (cs : List Signed) (i : ℕ) (d : Signed) (old new : Constraints) → i < length cs → AddsForms (get_or cs i d) old new
    → AreOfFile (take i cs) old → AreOfFile (take (i + 1) cs) new
file_more cs i d old new h (here, form, is) (ns, forms, was) =
    (ns ++ here, forms_more cs i d ns (ns ++ here) h (here, refl, form) forms, is ∙ ap (pushed_all here) was ∙ listed_more ns here)

-- two more ids are left for each further constraint of a file
pub room_more : (cs : List Signed) (i : ℕ) (d : Constraints) → i < length cs → length cs ≤ most_constraints → AreOfFile (take i cs) d → d.next + 2 ≤ id_limit
room_more cs i d h few (ns, forms, is) =
    let next : d.next ≡ length ns + 1 = ap (λ (x : Constraints). x.next) is in
    omega (arith, next, all_count (take i cs) ns forms, few_ids (take i cs), length-take i cs, h, few)

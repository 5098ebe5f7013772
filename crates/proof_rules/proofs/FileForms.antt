-- The normal constraints of a file.
use Rattle.std.proofs.Common.{◌≡◌, ℕ, ◌+◌, ◌*◌, ◌<◌, ◌≤◌, List, [], ◌∷◌, ◌++◌, length, get_or, take, All, unsigned_abs, refl, sym, ap, subst, ◌∙◌, append_assoc, arith}
use Rattle.std.proofs.lemmas.Int.{ints}
use Rattle.std.proofs.lemmas.List.{append-nil, take_more, length-append}
use Rattle.std.proofs.lemmas.List.Elements.{All-nil, All-cons, All-head, All-tail, All-append}
use Rattle.linear.specs.declared.constraint.Relation.{Relation}
use Rattle.linear.specs.declared.constraint.Relation.TheVariants as relations
use Rattle.linear.specs.declared.constraint.Signed.{Signed}
use Rattle.linear.specs.Valuation.{Valuation}
use Rattle.linear.specs.Sum.{Meets}
use Rattle.linear.specs.Opb.{Opb}
use Rattle.linear.specs.Limits.{IsConstraintWithin}
use Rattle.normal_form.specs.Normal.{NormalConstraint, Holds, Rises, largest_sum}
use Rattle.normal_form.specs.NormalOf.{size_sum}
use Rattle.normal_form.proofs.NormalForm.{form_meaning}
use Rattle.normal_form.proofs.SignChanges.{both_meaning}
use Rattle.normal_form.proofs.SmallSizes.{size_sum_small}
use Rattle.proof_rules.specs.Claim.{IsSolution}
use Rattle.proof_rules.specs.Forms.{AreFormsAs, AreFormsOf, AreFormsOfAll, AddsForms, ids_as, problem_ids}
use Rattle.proof_rules.specs.Preserved.{IsPreserved, AreNormal}
use Rattle.proof_rules.specs.State.{State, state_of, IsStart}
use Rattle.proof_rules.proofs.LiveConstraints.{All-get, All-numbered, listed_within}

-- a constraint of a file is small enough for its normal form
pub constraint_small : (n : ℕ) (c : Signed) → IsConstraintWithin n c → size_sum c.terms + unsigned_abs c.right ≤ largest_sum
constraint_small n c h =
    let sizes = size_sum_small n c.terms h.sum.each in
    let few = h.sum.count in
    let right = h.right in
    omega (arith, sizes, few, right)

-- one more constraint
AreFormsOfAll-push : (cs : List Signed) (c : Signed) (ns here : List NormalConstraint) → AreFormsOfAll cs ns → AreFormsOf c here → AreFormsOfAll (cs ++ c ∷ []) (ns ++ here)
AreFormsOfAll-push [] c ns here empty h = (here, [], ap (λ l. l ++ here) empty ∙ sym (append-nil here), h, refl)
AreFormsOfAll-push (d ∷ ds) c ns here f h =
    (f.0, f.1 ++ here, ap (λ l. l ++ here) f.2 ∙ append_assoc f.0 f.1 here, f.3, AreFormsOfAll-push ds c f.1 here f.4 h)

pub forms_more : (cs : List Signed) (i : ℕ) (d : Signed) (old new : List NormalConstraint) → i < length cs → AddsForms (get_or cs i d) old new
    → AreFormsOfAll (take i cs) old → AreFormsOfAll (take (i + 1) cs) new
forms_more cs i d old new h adds before =
    let all = AreFormsOfAll-push (take i cs) (get_or cs i d) old adds.0 before adds.2 in
    subst (λ xs. AreFormsOfAll xs new) (sym (take_more cs i d h)) (subst (AreFormsOfAll (take i cs ++ get_or cs i d ∷ [])) (sym adds.1) all)

-- the file's ids are those of its constraints
forms_count : (r : Relation) (c : Signed) (ns : List NormalConstraint) → AreFormsAs r c ns → length ns ≡ ids_as r
forms_count relations.AtLeast c ns (n, is, form) = ap length is
forms_count relations.Equal c ns (n, m, is, form) = ap length is

pub all_count : (cs : List Signed) (ns : List NormalConstraint) → AreFormsOfAll cs ns → length ns ≡ problem_ids cs
all_count [] ns empty = ap length empty
all_count (c ∷ cs) ns (here, rest, is, form, forms) =
    let two = forms_count c.relation c here form in
    let more = all_count cs rest forms in
    omega (arith, ap length is, length-append here rest, two, more)

-- at most two for each constraint
ids_few : (r : Relation) → ids_as r ≤ 2
ids_few relations.AtLeast = omega arith
ids_few relations.Equal = omega arith

pub few_ids : (cs : List Signed) → problem_ids cs ≤ 2 * length cs
few_ids [] = omega arith
few_ids (c ∷ cs) = omega (arith, ids_few c.relation, few_ids cs)

All-one : (P : NormalConstraint → Type 0) (n : NormalConstraint) → P n → All P (n ∷ [])
All-one P n p = All-cons P n [] p (All-nil P)

-- the normal constraints of one that is met hold
form_holds : (a : Valuation) (r : Relation) (c : Signed) (ns : List NormalConstraint) → c.relation ≡ r → AreFormsAs r c ns → Meets a c → All (Holds a) ns
form_holds a relations.AtLeast c ns same (n, is, form) meets =
    subst (All (Holds a)) (sym is) (All-one (Holds a) n ((form_meaning c n same form a).1 meets))
form_holds a relations.Equal c ns same (n, m, is, forms) meets =
    let both = (both_meaning c n m same forms a).1 meets in
    subst (All (Holds a)) (sym is) (All-cons (Holds a) n (m ∷ []) both.0 (All-one (Holds a) m both.1))

pub all_hold : (a : Valuation) (cs : List Signed) (ns : List NormalConstraint) → AreFormsOfAll cs ns → All (Meets a) cs → All (Holds a) ns
all_hold a [] ns empty meets = subst (All (Holds a)) (sym empty) (All-nil (Holds a))
all_hold a (c ∷ cs) ns (here, rest, is, form, forms) meets =
    subst (All (Holds a)) (sym is)
    (All-append (Holds a) here rest (form_holds a c.relation c here refl form (All-head (Meets a) c cs meets)) (all_hold a cs rest forms (All-tail (Meets a) c cs meets)))

form_rises : (r : Relation) (c : Signed) (ns : List NormalConstraint) → AreFormsAs r c ns → All (λ n. Rises 0 n.terms) ns
form_rises relations.AtLeast c ns (n, is, form) = subst (All (λ n. Rises 0 n.terms)) (sym is) (All-one (λ n. Rises 0 n.terms) n form.rises)
form_rises relations.Equal c ns (n, m, is, forms) =
    subst (All (λ n. Rises 0 n.terms)) (sym is) (All-cons (λ n. Rises 0 n.terms) n (m ∷ []) forms.at_least.rises (All-one (λ n. Rises 0 n.terms) m forms.at_most.rises))

pub all_rise : (cs : List Signed) (ns : List NormalConstraint) → AreFormsOfAll cs ns → All (λ n. Rises 0 n.terms) ns
all_rise [] ns empty = subst (All (λ n. Rises 0 n.terms)) (sym empty) (All-nil (λ n. Rises 0 n.terms))
all_rise (c ∷ cs) ns (here, rest, is, form, forms) =
    subst (All (λ n. Rises 0 n.terms)) (sym is) (All-append (λ n. Rises 0 n.terms) here rest (form_rises c.relation c here form) (all_rise cs rest forms))

-- the state of a file has an answer for its problem: the assignment itself
pub start_preserved : (p : Opb) (s : State) → IsStart p s → IsPreserved p s
start_preserved p s (ns, forms, is) = subst (IsPreserved p) (sym is) (record {
  answer = λ a satisfies below.
      let all = All-numbered (Holds a) 1 ns (all_hold a p.constraints ns forms satisfies) in
      (a, record { meets = λ id n there early. All-get (Holds a) (state_of ns).live id n all there; value = omega (arith, ints) });
  logged = All-nil (IsSolution p);
  least = tt;
  given = λ id n there. omega (arith, (listed_within ns id n there).1);
  block = tt;
})

pub start_normal : (p : Opb) (s : State) → IsStart p s → AreNormal s
start_normal p s (ns, forms, is) = subst AreNormal (sym is) (All-numbered (λ n. Rises 0 n.terms) 1 ns (all_rise p.constraints ns forms))

-- the constraint that was read is the one at its place
pub read_constraint : (cs shown : List Signed) (c : Signed) (i : ℕ) → shown ≡ cs → c ≡ get_or shown i c → c ≡ get_or cs i c
read_constraint cs shown c i same e = e ∙ ap (λ xs. get_or xs i c) same

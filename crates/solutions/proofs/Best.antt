-- The best of logged solutions, as one more is looked at.
use Rattle.std.proofs.Common.{◌≡◌, ℕ, ◌+◌, ◌<◌, length, get_or, take, ℤ, ◌<ℤ◌, ◌≤ℤ◌, inl, inr, Bool, List, [], ◌∷◌, ◌++◌, Option, Some, None, All, IfSome, refl, sym, ap, subst, ◌∙◌, append_assoc, arith}
use Rattle.std.proofs.lemmas.Int.{ints}
use Rattle.std.proofs.lemmas.List.Elements.{All-nil, All-push, All-weaker, All-get_or}
use Rattle.std.proofs.lemmas.List.{take_more}
use Rattle.linear.specs.Opb.{Opb}
use Rattle.proof_rules.specs.Claim.{IsSolution}
use Rattle.proof_rules.specs.Justified.{IsBest}
use Rattle.proof_rules.specs.Legal.{worth_of}
use Rattle.proof_rules.proofs.Concluding.{best_least}
use Rattle.proof_rules.proofs.Deciding.{less_or_not}

not_less : (x y : ℤ) → (x <ℤ y → ⊥) → y ≤ℤ x
not_less x y fails = elim (less_or_not x y) as (λ _. y ≤ℤ x) [ inl less ↦ absurd (fails less) | inr h ↦ h ]

-- the next one that is looked at
pub looked_at : (p : Opb) (all shown : List (List Bool)) (i : ℕ) (item : List Bool) → shown ≡ all → i < length shown → item ≡ get_or shown i item → All (IsSolution p) all
    → (take (i + 1) all ≡ take i all ++ item ∷ []) × IsSolution p item
looked_at p all shown i item same below is each =
    let h : i < length all = subst (λ xs. i < length xs) same below in
    let at : item ≡ get_or all i item = is ∙ ap (λ xs. get_or xs i item) same in
    (take_more all i item h ∙ ap (λ x. take i all ++ x ∷ []) (sym at), subst (IsSolution p) (sym at) (All-get_or (IsSolution p) all i item h each))

-- one that is not worth less changes nothing
pub best_stays : (p : Opb) (logged : List (List Bool)) (g : List Bool) (best : Option (List Bool)) → IsBest p logged best
    → (IfSome best (λ b. worth_of p g <ℤ worth_of p b) → ⊥) → IsBest p (logged ++ g ∷ []) best
best_stays p logged g None none fails = absurd (fails tt)
best_stays p logged g (Some b) (before, behind, is, less, least) fails = (
  before,
  behind ++ g ∷ [],
  ap (λ xs. xs ++ g ∷ []) is ∙ append_assoc before (b ∷ behind) (g ∷ []),
  less,
  All-push (λ h. worth_of p b ≤ℤ worth_of p h) behind g least (not_less (worth_of p g) (worth_of p b) fails),
)

-- one that is worth less is the best
pub best_changes : (p : Opb) (logged : List (List Bool)) (g : List Bool) (best : Option (List Bool)) → IsBest p logged best
    → IfSome best (λ b. worth_of p g <ℤ worth_of p b) → IsBest p (logged ++ g ∷ []) (Some g)
best_changes p logged g None none less =
    (logged, [], refl, subst (All (λ h. worth_of p g <ℤ worth_of p h)) (sym none) (All-nil (λ h. worth_of p g <ℤ worth_of p h)), All-nil (λ h. worth_of p g ≤ℤ worth_of p h))
best_changes p logged g (Some b) best less = (
  logged,
  [],
  refl,
  All-weaker (λ h. worth_of p b ≤ℤ worth_of p h) (λ h. worth_of p g <ℤ worth_of p h) (λ h more. omega (arith, ints, less, more)) logged (best_least p logged b best),
  All-nil (λ h. worth_of p g ≤ℤ worth_of p h),
)

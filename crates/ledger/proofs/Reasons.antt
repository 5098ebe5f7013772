-- Reasons, with a literal more, with fewer, and beside other constraints.
use Rattle.std.proofs.Common.{◌≡◌, ℕ, ◌+◌, ◌-◌, ◌<◌, inl, inr, Option, None, Some, List, [], ◌∷◌, ◌++◌, length, get_or, take, refl, ap, sym, ◌∙◌, length-append, arith}
use Rattle.std.proofs.lemmas.Bool.{cases_eq}
use Rattle.std.proofs.lemmas.List.{get_or_push, get_or_append_left, get_or-take, length-take-le, take-append-le}
use Rattle.std.proofs.Math.Seq.{take-length}
use Rattle.linear.specs.declared.term.Lit.{Lit}
use Rattle.normal_form.specs.Normal.{NormalConstraint}
use Rattle.ledger.specs.Ledgers.{IsReason, AreReasons, constraint_at}

pub reasons_push : (cs : List NormalConstraint) (xs : List Lit) (rs : List (Option ℕ)) (l : Lit) (r : Option ℕ) → AreReasons cs xs rs → IsReason cs xs l r → AreReasons cs (xs ++ l ∷ []) (rs ++ r ∷ [])
reasons_push cs xs rs l r a f = record {
  as_many = omega (arith, a.as_many, length-append xs (l ∷ []), length-append rs (r ∷ []));
  forced = λ k d h. elim (cases_eq k (length xs)) [
    | inl e ↦
        let before : take k (xs ++ l ∷ []) ≡ xs = ap (λ (i : ℕ). take i (xs ++ l ∷ [])) e ∙ take-append-le (length xs) xs (l ∷ []) (omega arith) ∙ take-length xs in
        let literal : get_or (xs ++ l ∷ []) k d ≡ l = get_or_push xs l d k (sym e) in
        let reason : get_or (rs ++ r ∷ []) k None ≡ r = get_or_push rs r None k (omega (arith, e, a.as_many)) in
        rw (before, literal, reason) f
    | inr n ↦
        let low : k < length xs = omega (arith, h, n, length-append xs (l ∷ [])) in
        let before : take k (xs ++ l ∷ []) ≡ take k xs = take-append-le k xs (l ∷ []) (omega arith) in
        let literal : get_or (xs ++ l ∷ []) k d ≡ get_or xs k d = get_or_append_left xs (l ∷ []) d k low in
        let reason : get_or (rs ++ r ∷ []) k None ≡ get_or rs k None = get_or_append_left rs (r ∷ []) None k (omega (arith, low, a.as_many)) in
        rw (before, literal, reason) (a.forced k d low)
  ];
}

pub reasons_pop : (cs : List NormalConstraint) (xs : List Lit) (rs : List (Option ℕ)) (l : Lit) → AreReasons cs (xs ++ l ∷ []) rs → AreReasons cs xs (take (length rs - 1) rs)
reasons_pop cs xs rs l a =
    let many : length rs ≡ length xs + 1 = a.as_many ∙ length-append xs (l ∷ []) in
    record {
      as_many = length-take-le (length rs - 1) rs (omega arith) ∙ omega (arith, many);
      forced = λ k d low.
          let before : take k (xs ++ l ∷ []) ≡ take k xs = take-append-le k xs (l ∷ []) (omega arith) in
          let literal : get_or (xs ++ l ∷ []) k d ≡ get_or xs k d = get_or_append_left xs (l ∷ []) d k low in
          let reason : get_or (take (length rs - 1) rs) k None ≡ get_or rs k None = get_or-take (length rs - 1) rs k None (omega (arith, low, many)) in
          let it : IsReason cs (take k (xs ++ l ∷ [])) (get_or (xs ++ l ∷ []) k d) (get_or rs k None) = a.forced k d (omega (arith, low, length-append xs (l ∷ []))) in
          rw reason (rw (before, literal) at it);
    }

moved : (cs new : List NormalConstraint) (xs : List Lit) (l : Lit) (r : Option ℕ) → ((place : ℕ) → r ≡ Some place → place < length cs → (place < length new) × (constraint_at new place ≡ constraint_at cs place)) → IsReason cs xs l r → IsReason new xs l r
moved cs new xs l None h f = tt
moved cs new xs l (Some place) h f = let there = h place refl f.0 in (there.0, rw there.1 f.1)

-- the constraints that are reasons stand where they stood
pub reasons_moved : (cs new : List NormalConstraint) (xs : List Lit) (rs : List (Option ℕ)) → AreReasons cs xs rs
    → ((k place : ℕ) → k < length xs → get_or rs k None ≡ Some place → place < length cs → (place < length new) × (constraint_at new place ≡ constraint_at cs place))
    → AreReasons new xs rs
reasons_moved cs new xs rs a h = record {
  as_many = a.as_many;
  forced = λ k d low. moved cs new (take k xs) (get_or xs k d) (get_or rs k None) (λ place. h k place low) (a.forced k d low);
}

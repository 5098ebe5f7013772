-- A nought more at the end shows nowhere.
use Rattle.std.proofs.Common.{◌≡◌, ◌∙◌, ◌++◌, ◌∷◌, ℕ, List, [], inl, inr, length, length-append, get_or, sym, ap, arith}
use Rattle.std.proofs.lemmas.Bool.{cases_eq, cases_lt}
use Rattle.std.proofs.lemmas.List.{get_or_append_left, get_or_past, get_or_push}
use Rattle.ledger.proofs.counting.push_noughts.Goals as goal

nought_more : (ns : List ℕ) (k : ℕ) → get_or (ns ++ 0 ∷ []) k 0 ≡ get_or ns k 0
nought_more ns k = elim (cases_lt k (length ns)) [
  | inl low ↦ get_or_append_left ns (0 ∷ []) 0 k low
  | inr high ↦ elim (cases_eq k (length ns)) [
    | inl e ↦ get_or_push ns 0 0 k (sym e) ∙ sym (get_or_past ns k 0 high)
    | inr other ↦ get_or_past (ns ++ 0 ∷ []) k 0 (omega (arith, high, other, length-append ns (0 ∷ []))) ∙ sym (get_or_past ns k 0 high)
  ]
]

pub loop-preserved : goal.loop-preserved
loop-preserved c = record {
  same = λ k. ap (λ (ns : List ℕ). get_or ns k 0) c.push_reserved.ensures.items ∙ nought_more c.loop.numbers.items k ∙ c.loop.invariant.same k;
  count = omega (arith, ap (length {A = ℕ}) c.push_reserved.ensures.items, length-append c.loop.numbers.items (0 ∷ []), c.loop.invariant.count);
  room = c.push_reserved.ensures.capacity ∙ c.loop.invariant.room;
}

-- One place more, which fits since there are no more terms than variables.
use Rattle.std.proofs.Common.{◌≡◌, ℕ, ◌+◌, ◌<◌, ◌≤◌, inl, inr, List, [], ◌∷◌, ◌++◌, length, get_or, ap, ◌∙◌, length-append, arith}
use Rattle.std.proofs.lemmas.Bool.{cases_lt}
use Rattle.std.proofs.lemmas.List.{get_or_append_left, get_or_push}
use Rattle.normal_form.specs.Normal.{variable_bound}
use Rattle.ledger.proofs.DecreasingTerms.{no_more_terms}
use Rattle.ledger.proofs.order.places.Goals as goal

pub overflow_cast-place : goal.overflow_cast-place
overflow_cast-place c =
    let n = c.args.constraint.now in
    let some : 0 < length n.terms = omega (arith, c.loop-place-test.true, c.len-count.ensures.value) in
    let few : 0 + length n.terms ≤ variable_bound n.terms = no_more_terms 0 n.terms c.len-count.ensures.normal.rises some in
    omega (arith, c.loop-place-test.true, c.len-count.ensures.value, few, c.variable_count-variables.ensures.value, c.variable_count-variables.ensures.limit)

pushed_next : (xs ys : List ℕ) (i : ℕ) → length xs ≡ i → ((k : ℕ) → k < i → get_or xs k 0 ≡ k) → ys ≡ xs ++ i ∷ [] → (k : ℕ) → k < i + 1 → get_or ys k 0 ≡ k
pushed_next xs ys i many stand e k h = elim (cases_lt k i) [
  | inl before ↦ ap (λ (zs : List ℕ). get_or zs k 0) e ∙ get_or_append_left xs (i ∷ []) 0 k (omega (arith, before, many)) ∙ stand k before
  | inr past ↦ ap (λ (zs : List ℕ). get_or zs k 0) e ∙ get_or_push xs i 0 k (omega (arith, past, h, many)) ∙ omega (arith, past, h)
]

pub loop-place-preserved : goal.loop-place-preserved
loop-place-preserved c =
    let i = c.loop-place.invariant in
    record {
      count = omega (arith, ap (length {A = ℕ}) c.push_reserved.ensures.items, length-append c.loop-place.order.items (c.loop-place.place ∷ []), i.count);
      each = pushed_next c.loop-place.order.items c.push_reserved.new.self.items c.loop-place.place i.count i.each c.push_reserved.ensures.items;
      room = omega (arith, i.room, c.push_reserved.ensures.capacity);
    }

use Rattle.std.proofs.Common.{rules, ◌≡◌, ◌+◌, ◌<◌, ℕ, List, max, get_or, length, take, ap, subst, sym, ◌∙◌}
use Rattle.presolve.specs.Weights.{greatest, greatest_of}
use Rattle.presolve.proofs.Places.{written_back}
use Rattle.presolve.proofs.Weighing.{keys_weighed}
use Rattle.presolve.proofs.weights.weights_of.Goals as goal

pub loop-key-preserved : goal.loop-key-preserved
loop-key-preserved c =
    let keys = c.args.keys.now in
    let i = c.loop-key.key-index in
    let key = c.key-item.result in
    let old : List ℕ = c.loop-key.table.items in
    let new : List ℕ = c.weigh.new.table in
    let long : length new ≡ length old = search rules in
    let back = written_back new old c.loop-key.table.len (search rules) in
    subst (λ (xs : List ℕ). (length xs ≡ c.args.count) × ((v : ℕ) → v < c.args.count → get_or xs v 0 ≡ greatest (take (i + 1) keys) v)) (sym back) (
      long ∙ c.loop-key.invariant.0,
      λ v h.
          let inside : v < length c.as_mut_slice.result.now = subst (λ (xs : List ℕ). v < length xs) (sym c.as_mut_slice.ensures.value) (subst (λ n. v < n) (sym c.loop-key.invariant.0) h) in
          let here : get_or new v 0 ≡ max (get_or old v 0) (greatest_of (get_or keys i key).degree (get_or keys i key).terms.items v) =
          c.weigh.ensures v inside
          ∙ ap (λ (xs : List ℕ). max (get_or xs v 0) (greatest_of key.degree key.terms.items v)) c.as_mut_slice.ensures.value
          ∙ ap (λ k. max (get_or old v 0) (greatest_of k.degree k.terms.items v)) c.key-item.is in
          keys_weighed keys i key v (get_or old v 0) (get_or new v 0) c.loop-key-test.true (c.loop-key.invariant.1 v h) here,
    )

-- The places are put in order by how much their coefficients are below the greatest number.
use Rattle.std.proofs.Common.{rules}
use Rattle.std.proofs.lemmas.List.Sorted.{IsNonDecreasingBy-from_sort_by_key}
use Rattle.ledger.proofs.DecreasingTerms.{decreasing_when_sorted, few_enough, lack_at}
use Rattle.ledger.proofs.order.order_of.Goals as goal

pub returns-clause-decreasing : goal.returns-clause-decreasing
returns-clause-decreasing c =
    let n = c.args.constraint.now in
    decreasing_when_sorted n.terms c.in_ok-order.order.items c.sort_unstable_by_key.new.self.items c.in_ok-order.ensures.count c.in_ok-order.ensures.each c.sort_unstable_by_key.ensures.permutation
    (IsNonDecreasingBy-from_sort_by_key (lack_at n.terms) _ c.sort_unstable_by_key.ensures.sorted (λ a r q k. search rules)) (few_enough n c.places.ensures.normal)

-- A sort by the variable leaves them in order.
use Rattle.std.proofs.Common.{rules}
use Rattle.std.proofs.lemmas.List.Sorted.{IsNonDecreasingBy-from_sort_by_key}
use Rattle.linear.specs.declared.term.Term.{Term}
use Rattle.normal_form.proofs.merging.put_in_order.Goals as goal

pub returns-clause-order : goal.returns-clause-order
returns-clause-order c = IsNonDecreasingBy-from_sort_by_key (λ (t : Term). t.var.0) _ c.in_ok-sort_by_key.ensures.sorted (λ a r q k. search rules)

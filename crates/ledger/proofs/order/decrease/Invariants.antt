-- So far no coefficient is above the one before it.
use Rattle.std.proofs.Common.{ℕ, ◌<◌, ◌≤◌, ◌-◌}
use Rattle.ledger.specs.Orders.{coefficient_at}
use Rattle.ledger.proofs.order.decrease.Given as goal

abbrev pub invariant-loop-place : goal.invariant-loop-place
invariant-loop-place l = (k : ℕ) → 0 < k → k < l.place → coefficient_at l.constraint.terms k ≤ coefficient_at l.constraint.terms (k - 1)

-- What does not wait is looked at; each turn takes a place away or adds a literal.
use Rattle.std.proofs.Common.{◌≡◌, ◌+◌, ◌-◌, ◌*◌, length, take}
use Rattle.ledger.specs.Ledgers.{shown}
use Rattle.watch.specs.Looking.{AreLookedAt, GoesOn}
use Rattle.watch.proofs.walk.visit_all.Given as goal

abbrev pub invariant-loop-place : goal.invariant-loop-place
invariant-loop-place l = record {
  goes_on : GoesOn l.initial.ledger l.ledger;
  first : take (length l.initial.ledger.propagated) l.ledger.propagated ≡ l.initial.ledger.propagated;
  propagated : l.ledger.propagated ≡ l.ledger.assigned;
  count : l.queue.1 ≡ l.initial.queue.1;
  looked_at : AreLookedAt (shown l.initial.ledger.slots) l.ledger.propagated l.queue.0;
}

abbrev pub decreases-loop-place : goal.decreases-loop-place
decreases-loop-place l = (l.ledger.variables - length l.ledger.assigned) * (l.queue.1 + 1 + 1) + length l.queue.0

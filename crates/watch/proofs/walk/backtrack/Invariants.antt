-- The first literals stay.
use Rattle.std.proofs.Common.{◌≡◌, ◌≤◌, length, take}
use Rattle.watch.proofs.walk.backtrack.Given as goal

abbrev pub invariant-loop-ledger : goal.invariant-loop-ledger
invariant-loop-ledger l = record {
  slots : l.ledger.slots ≡ l.initial.ledger.slots;
  variables : l.ledger.variables ≡ l.initial.ledger.variables;
  first : take l.count l.ledger.assigned ≡ take l.count l.initial.ledger.assigned;
  first_propagated : take l.count l.ledger.propagated ≡ take l.count l.initial.ledger.propagated;
  first_reasons : take l.count l.ledger.reasons ≡ take l.count l.initial.ledger.reasons;
  long : l.count ≤ length l.ledger.assigned;
}

abbrev pub decreases-loop-ledger : goal.decreases-loop-ledger
decreases-loop-ledger l = length l.ledger.assigned

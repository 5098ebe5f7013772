-- The first literals stay, and what does not wait is looked at.
use Rattle.std.proofs.Common.{◌≡◌, ◌≤◌, length, take}
use Rattle.ledger.specs.Ledgers.{shown}
use Rattle.watch.specs.Looking.{AreLookedAt}
use Rattle.watch.proofs.release.backtrack_and_queue.Given as goal

abbrev pub invariant-loop-ledger : goal.invariant-loop-ledger
invariant-loop-ledger l = record {
  slots : l.ledger.slots ≡ l.initial.ledger.slots;
  variables : l.ledger.variables ≡ l.initial.ledger.variables;
  count : l.queue.1 ≡ l.initial.queue.1;
  assigned : l.ledger.assigned ≡ take (length l.ledger.assigned) l.initial.ledger.assigned;
  reasons : l.ledger.reasons ≡ take (length l.ledger.assigned) l.initial.ledger.reasons;
  long : l.count ≤ length l.ledger.assigned;
  looked_at : AreLookedAt (shown l.initial.ledger.slots) l.ledger.propagated l.queue.0;
}

abbrev pub decreases-loop-ledger : goal.decreases-loop-ledger
decreases-loop-ledger l = length l.ledger.assigned

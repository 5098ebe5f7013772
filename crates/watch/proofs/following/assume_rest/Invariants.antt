-- The literals so far are given, and all is propagated.
use Rattle.std.proofs.Common.{◌≡◌, take}
use Rattle.propagate.specs.Chain.{IsFixpoint}
use Rattle.watch.specs.Keeping.{IsKept}
use Rattle.ledger.specs.Ledgers.{shown}
use Rattle.watch.proofs.following.assume_rest.Given as goal

abbrev pub invariant-loop-index : goal.invariant-loop-index
invariant-loop-index l = record {
  slots : l.ledger.slots ≡ l.initial.ledger.slots;
  variables : l.ledger.variables ≡ l.initial.ledger.variables;
  kept : IsKept l.ledger l.levels l.queue.0 l.queue.1;
  first : l.levels.0 ≡ take l.index l.given;
  fixpoint : IsFixpoint (shown l.initial.ledger.slots) l.ledger.assigned;
}

-- The literals so far are told.
use Rattle.std.proofs.Common.{take}
use Rattle.ledger.specs.Ledgers.{shown}
use Rattle.watch.specs.Steps.{IsTold}
use Rattle.watch.proofs.telling.tell_all.Given as goal

abbrev pub invariant-loop-index : goal.invariant-loop-index
invariant-loop-index l = IsTold (shown l.ledger.slots) l.given.0 (take l.index l.ledger.assigned) l.steps.items

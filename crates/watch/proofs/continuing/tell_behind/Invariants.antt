-- The literals so far are told.
use Rattle.std.proofs.Common.{◌≡◌, ◌+◌, ◌++◌, take}
use Rattle.ledger.specs.Ledgers.{shown}
use Rattle.watch.specs.Steps.{AreSteps, literals_of}
use Rattle.watch.proofs.continuing.tell_behind.Given as goal

abbrev pub invariant-loop-index : goal.invariant-loop-index
invariant-loop-index l =
    AreSteps (shown l.ledger.slots) (take (l.last + 1) l.ledger.assigned) l.steps.items × (take (l.last + 1) l.ledger.assigned ++ literals_of l.steps.items ≡ take l.index l.ledger.assigned)

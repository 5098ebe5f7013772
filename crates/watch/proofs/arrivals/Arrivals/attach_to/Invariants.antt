-- What has moved stands behind the others, and what is left behind that.
use Rattle.std.proofs.Common.{◌≡◌, ◌++◌, ℕ, List, length}
use Rattle.linear.specs.declared.term.Lit.{Lit}
use Rattle.ledger.specs.Ledgers.{shown}
use Rattle.watch.specs.Keeping.{IsKept}
use Rattle.watch.specs.Looking.{AreLookedAt}
use Rattle.watch.specs.Rests.{IsRest}
use Rattle.watch.specs.declared.rest.Rest.{Rest}
use Rattle.watch.proofs.arrivals.Arrivals.attach_to.Given as goal

abbrev pub invariant-loop-alloc : goal.invariant-loop-alloc
invariant-loop-alloc l = record {
  count : l.queue.1 ≡ length l.ledger.slots;
  looked_at : AreLookedAt (shown l.ledger.slots) l.ledger.propagated l.queue.0;
  kept : (levels : List Lit × List ℕ × List ℕ) → IsKept l.initial.ledger levels l.initial.queue.0 l.initial.queue.1 → IsKept l.ledger levels l.queue.0 l.queue.1;
  rest : (rest : Rest) → IsRest (shown l.initial.ledger.slots) l.initial.ledger.propagated rest → IsRest (shown l.ledger.slots) l.ledger.propagated rest;
  same : l.ledger.slots ++ l.self-inside.row.items ≡ l.initial.ledger.slots ++ l.initial.self-inside.row.items;
}

abbrev pub decreases-loop-alloc : goal.decreases-loop-alloc
decreases-loop-alloc l = length l.self-inside.row.items

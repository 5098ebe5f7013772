-- The extra constraints so far are there.
use Rattle.std.proofs.Common.{◌≡◌, ◌++◌, Some, length, map, take}
use Rattle.ledger.specs.Ledgers.{shown}
use Rattle.watch.specs.Looking.{AreLookedAt}
use Rattle.watch.proofs.attaching.attach_all.Given as goal

abbrev pub invariant-loop-extra : goal.invariant-loop-extra
invariant-loop-extra l = record {
  assigned : l.ledger.assigned ≡ l.initial.ledger.assigned;
  reasons : l.ledger.reasons ≡ l.initial.ledger.reasons;
  count : l.queue.1 ≡ length l.ledger.slots;
  propagated : l.ledger.propagated ≡ l.initial.ledger.propagated;
  looked_at : AreLookedAt (shown l.ledger.slots) l.ledger.propagated l.queue.0;
  slots : l.ledger.slots ≡ l.initial.ledger.slots ++ map Some (take l.extra-index l.extras);
}

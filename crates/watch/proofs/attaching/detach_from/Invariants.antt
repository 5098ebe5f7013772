-- Places are left from the end, down to the number.
use Rattle.std.proofs.Common.{◌≡◌, ◌≤◌, length, take}
use Rattle.watch.proofs.attaching.detach_from.Given as goal

abbrev pub invariant-loop-ledger : goal.invariant-loop-ledger
invariant-loop-ledger l = record {
  same : l.ledger ≡ record l.initial.ledger { slots = take (length l.ledger.slots) l.initial.ledger.slots; listed = l.ledger.listed };
  many : l.count ≤ length l.ledger.slots;
  few : length l.ledger.slots ≤ length l.initial.ledger.slots;
}

abbrev pub decreases-loop-ledger : goal.decreases-loop-ledger
decreases-loop-ledger l = length l.ledger.slots

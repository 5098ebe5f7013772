-- Some more literals were propagated.
use Rattle.std.proofs.Common.{◌≡◌, ◌-◌, length}
use Rattle.watch.specs.Looking.{PropagatesOn}
use Rattle.watch.proofs.walk.propagate.Given as goal

abbrev pub invariant-loop-ledger : goal.invariant-loop-ledger
invariant-loop-ledger l = record {
  on : PropagatesOn l.initial.ledger l.ledger l.initial.queue.0 l.queue.0;
  count : l.queue.1 ≡ l.initial.queue.1;
  idle : l.initial.ledger.propagated ≡ l.initial.ledger.assigned → (l.ledger.propagated ≡ l.initial.ledger.propagated) × (l.queue.0 ≡ l.initial.queue.0);
}

abbrev pub decreases-loop-ledger : goal.decreases-loop-ledger
decreases-loop-ledger l = length l.ledger.assigned - length l.ledger.propagated

-- The places of the entries so far wait, where they have to.
use Rattle.std.proofs.Common.{◌≡◌}
use Rattle.ledger.proofs.Counters.{IsQueuedSoFar}
use Rattle.occurrences.specs.Rows.{all_in}
use Rattle.ledger.proofs.lowering.queue_below.Given as goal

abbrev pub invariant-loop-index : goal.invariant-loop-index
invariant-loop-index l = record {
  queued : IsQueuedSoFar l.counters l.limits l.initial.queue.0 l.queue.0 (all_in l.list) l.index;
  count : l.queue.1 ≡ l.initial.queue.1;
}

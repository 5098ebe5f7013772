-- The counters are lowered by the entries so far.
use Rattle.std.proofs.Common.{◌≡◌}
use Rattle.ledger.proofs.Counters.{IsLowered}
use Rattle.occurrences.specs.Rows.{all_in}
use Rattle.ledger.proofs.lowering.lower.Given as goal

abbrev pub invariant-loop-index : goal.invariant-loop-index
invariant-loop-index l = record {
  lowered : IsLowered l.initial.counters.items l.counters.items l.limits l.initial.queue.0 l.queue.0 (all_in l.list) l.index;
  count : l.queue.1 ≡ l.initial.queue.1;
}

-- The counters are raised by the entries so far.
use Rattle.ledger.proofs.Counters.{IsRaised}
use Rattle.occurrences.specs.Rows.{all_in}
use Rattle.ledger.proofs.lowering.raise.Given as goal

abbrev pub invariant-loop-index : goal.invariant-loop-index
invariant-loop-index l = IsRaised l.initial.counters.items l.counters.items (all_in l.list) l.index

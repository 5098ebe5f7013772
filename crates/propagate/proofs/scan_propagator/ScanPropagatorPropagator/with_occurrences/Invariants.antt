-- What is gathered so far, and what the entries still to come have, is what is wanted.
use Rattle.propagate.proofs.Gathered.{IsGathering}
use Rattle.propagate.proofs.scan_propagator.ScanPropagatorPropagator.with_occurrences.Given as goal

abbrev pub invariant-loop-id : goal.invariant-loop-id
invariant-loop-id l = IsGathering l.fn.self.all.entries l.literal l.fn.ids l.id-iterator l.gathered

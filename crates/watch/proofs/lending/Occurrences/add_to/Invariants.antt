-- What is there, and what is still lent, is what is wanted.
use Rattle.std.proofs.Common.{length}
use Rattle.watch.proofs.AddedIds.{IsAdding}
use Rattle.watch.proofs.lending.Occurrences.add_to.Given as goal

abbrev pub invariant-loop-id : goal.invariant-loop-id
invariant-loop-id l = IsAdding l.fn.self l.fn.ids l.rest l.gathered

abbrev pub decreases-loop-id : goal.decreases-loop-id
decreases-loop-id l = length l.rest

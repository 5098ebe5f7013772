use Rattle.std.proofs.Common.{◌≤◌, length}
use Rattle.search.proofs.standing.tell_unassigned.Given as goal

abbrev pub invariant-loop-place : goal.invariant-loop-place
invariant-loop-place g l = l.place ≤ length l.literals

abbrev pub decreases-loop-place : goal.decreases-loop-place
decreases-loop-place g l = l.place

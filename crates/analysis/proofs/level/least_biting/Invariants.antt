-- The walk goes down from place to place.
use Rattle.std.proofs.Common.{◌≤◌, length}
use Rattle.analysis.proofs.level.least_biting.Given as goal

abbrev pub invariant-loop-place : goal.invariant-loop-place
invariant-loop-place l = l.place ≤ length l.turns

abbrev pub decreases-loop-place : goal.decreases-loop-place
decreases-loop-place l = l.place

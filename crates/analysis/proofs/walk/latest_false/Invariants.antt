use Rattle.std.proofs.Common.{◌≤◌}
use Rattle.analysis.proofs.walk.latest_false.Given as goal

abbrev pub invariant-loop-place : goal.invariant-loop-place
invariant-loop-place l = l.place ≤ l.before

abbrev pub decreases-loop-place : goal.decreases-loop-place
decreases-loop-place l = l.place

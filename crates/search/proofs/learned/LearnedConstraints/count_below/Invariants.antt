use Rattle.std.proofs.Common.{◌≤◌, ◌-◌, length}
use Rattle.search.proofs.learned.LearnedConstraints.count_below.Given as goal

abbrev pub invariant-loop-low : goal.invariant-loop-low
invariant-loop-low l = l.high ≤ length l.self.all.items

abbrev pub decreases-loop-low : goal.decreases-loop-low
decreases-loop-low l = l.high - l.low

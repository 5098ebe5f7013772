use Rattle.std.proofs.Common.{◌≡◌, ◌-◌, length}
use Rattle.presolve.specs.Pairs.{IsChosen}
use Rattle.presolve.specs.Swapping.{most_tried, pairs_before}
use Rattle.presolve.proofs.swapping.swappable.Given as goal

-- so many variables have been gone over
abbrev pub invariant-loop-number : goal.invariant-loop-number
invariant-loop-number l =
    (length l.chosen.taken.items ≡ length l.fn.problem.names)
    × (l.left ≡ most_tried - pairs_before (length l.fn.problem.names) l.number)
    × IsChosen l.fn.problem l.fn.fixed l.number l.chosen.swaps.items l.chosen.taken.items

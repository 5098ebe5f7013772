-- The sets are of the literals so far, and these agree with the table and with each other.
use Rattle.std.proofs.Common.{length, take}
use Rattle.solutions.specs.Table.{AreSidesOf}
use Rattle.solutions.proofs.Consistent.{IsApart}
use Rattle.solutions.proofs.consistency.is_consistent.Given as goal

abbrev pub invariant-loop-literal : goal.invariant-loop-literal
invariant-loop-literal l =
    AreSidesOf (take l.literal-index l.assigned) (length l.table) l.beyond.plain l.beyond.negated × IsApart l.table (take l.literal-index l.assigned)

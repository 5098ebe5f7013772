use Rattle.std.proofs.Common.{◌≡◌, ◌++◌, List, length}
use Rattle.proof_lines.specs.Lines.{Numbered, lines_of}
use Rattle.checker.specs.Walk.{Reaches}
use Rattle.checker.specs.WalkOf.{position_of}
use Rattle.checker.proofs.judge.judge.Given as goal

-- the lines that were read lead to where the walk stands, and the others are left
abbrev pub invariant-loop-line : goal.invariant-loop-line
invariant-loop-line g l =
    (l.walk.kernel.problem ≡ l.fn.problem)
    × (l.lines.last ≡ (lines_of l.fn.proof).last)
    × ((read : List Numbered) × Reaches l.fn.problem read (position_of l.walk) × ((lines_of l.fn.proof).lines ≡ read ++ l.lines.lines))

-- the lines that are left
abbrev pub decreases-loop-line : goal.decreases-loop-line
decreases-loop-line g l = length l.lines.lines

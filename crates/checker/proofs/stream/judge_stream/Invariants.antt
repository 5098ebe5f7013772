use Rattle.std.proofs.Common.{◌≡◌, ◌+◌, List, length}
use Rattle.proof_lines.specs.Buffered.{PassesLines}
use Rattle.proof_lines.specs.Lines.{Numbered}
use Rattle.checker.specs.Walk.{Reaches}
use Rattle.checker.specs.WalkOf.{position_of}
use Rattle.checker.proofs.stream.judge_stream.Given as goal

-- the lines that were read lead to where the walk stands, and are those that came
abbrev pub invariant-loop-lines : goal.invariant-loop-lines
invariant-loop-lines g l =
    (l.walk.kernel.problem ≡ l.fn.problem)
    × ((read : List Numbered) × Reaches l.fn.problem read (position_of l.walk) × PassesLines l.initial.lines l.lines (g.S.Source.state l.fn.source) (g.S.Source.state l.source) read)

-- the bytes that are here, and those that the source may still give
abbrev pub decreases-loop-lines : goal.decreases-loop-lines
decreases-loop-lines g l = length l.lines.bytes + (g.S.Source.state l.source).left

use Rattle.std.proofs.Common.{◌+◌, [], length}
use Rattle.proof_lines.specs.Buffered.{PassesLines}
use Rattle.proof_lines.proofs.line_buffer.LineBuffer.advance.Given as goal

-- no line that counts was passed
abbrev pub invariant-loop-self : goal.invariant-loop-self
invariant-loop-self g l = PassesLines l.fn.self l.self (g.S.Source.state l.fn.source) (g.S.Source.state l.source) []

-- the bytes that are here, and those that the source may still give
abbrev pub decreases-loop-self : goal.decreases-loop-self
decreases-loop-self g l = length l.self.bytes + (g.S.Source.state l.source).left

use Rattle.std.proofs.Common.{◌+◌, cond}
use Rattle.proof_lines.specs.Buffered.{Fills}
use Rattle.proof_lines.proofs.line_buffer.LineBuffer.complete.Given as goal

-- what was pulled so far is held
abbrev pub invariant-loop-self : goal.invariant-loop-self
invariant-loop-self g l = Fills l.fn.self l.self (g.S.Source.state l.fn.source) (g.S.Source.state l.source)

-- what the source may still give, and that its end is not seen
abbrev pub decreases-loop-self : goal.decreases-loop-self
decreases-loop-self g l = (g.S.Source.state l.source).left + cond l.self.ended 0 1

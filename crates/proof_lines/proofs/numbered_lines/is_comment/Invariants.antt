use Rattle.std.proofs.Common.{◌≡◌, length}
use Rattle.pb_text.specs.Lexeme.{begins_comment}
use Rattle.proof_lines.proofs.numbered_lines.is_comment.Given as goal

-- the bytes that are passed stand before a comment as well
abbrev pub invariant-loop-rest : goal.invariant-loop-rest
invariant-loop-rest l = begins_comment l.rest ≡ begins_comment l.fn.line

abbrev pub decreases-loop-rest : goal.decreases-loop-rest
decreases-loop-rest l = length l.rest

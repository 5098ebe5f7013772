use Rattle.std.proofs.Common.{◌≡◌, length}
use Rattle.proof_lines.specs.LinesAhead.{pending}
use Rattle.proof_lines.proofs.numbered_lines.ProofReader.next.Given as goal

-- what is passed does not count
abbrev pub invariant-loop-at : goal.invariant-loop-at
invariant-loop-at l = pending l.at ≡ l.fn.self

abbrev pub decreases-loop-at : goal.decreases-loop-at
decreases-loop-at l = length l.at.rest.now

use Rattle.std.proofs.Common.{length}
use Rattle.proof_text.specs.Forms.{are_literals, literals_of}
use Rattle.proof_text.specs.PartsRead.{SoFar}
use Rattle.proof_text.proofs.values.lits.Given as goal

abbrev pub invariant-loop-lits : goal.invariant-loop-lits
invariant-loop-lits l = SoFar are_literals literals_of l.fn.table l.fn.words l.lits.items l.table l.words

abbrev pub decreases-loop-lits : goal.decreases-loop-lits
decreases-loop-lits l = length l.words

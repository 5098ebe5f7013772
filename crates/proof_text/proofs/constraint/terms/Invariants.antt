use Rattle.std.proofs.Common.{◌≡◌, length}
use Rattle.proof_text.specs.Forms.{behind_terms, terms_of}
use Rattle.proof_text.specs.PartsRead.{SoFar}
use Rattle.proof_text.proofs.constraint.terms.Given as goal

abbrev pub invariant-loop-terms : goal.invariant-loop-terms
invariant-loop-terms l =
    SoFar behind_terms terms_of l.fn.table l.fn.words.front l.terms.items l.table l.words.front × (l.words.behind ≡ l.fn.words.behind)

abbrev pub decreases-loop-terms : goal.decreases-loop-terms
decreases-loop-terms l = length l.words.front

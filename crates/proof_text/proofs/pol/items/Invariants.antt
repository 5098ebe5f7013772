use Rattle.std.proofs.Common.{length}
use Rattle.proof_text.specs.Forms.{are_items, items_of}
use Rattle.proof_text.specs.PartsRead.{SoFar}
use Rattle.proof_text.proofs.pol.items.Given as goal

abbrev pub invariant-loop-items : goal.invariant-loop-items
invariant-loop-items l = SoFar are_items items_of l.fn.table l.fn.words l.items.items l.table l.words

abbrev pub decreases-loop-items : goal.decreases-loop-items
decreases-loop-items l = length l.words

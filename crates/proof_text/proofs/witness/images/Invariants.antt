use Rattle.std.proofs.Common.{◌≡◌, ◌++◌, map, length}
use Rattle.proof_text.specs.Forms.{are_images, images_of, lefts}
use Rattle.proof_text.specs.PartsRead.{SoFar}
use Rattle.proof_text.proofs.witness.images.Given as goal

abbrev pub invariant-loop-token : goal.invariant-loop-token
invariant-loop-token l =
    SoFar are_images images_of l.fn.table l.fn.words.front l.images.items l.table l.words.front
    × (map (λ s. s.now) l.names.items ++ lefts l.words.front ≡ lefts l.fn.words.front)
    × (l.words.behind ≡ l.fn.words.behind)

abbrev pub decreases-loop-token : goal.decreases-loop-token
decreases-loop-token l = length l.words.front

use Rattle.std.proofs.Common.{◌≡◌, length}
use Rattle.substitution.specs.Images.{image_of}
use Rattle.substitution.proofs.substitution.listed.Given as goal

abbrev pub invariant-loop-rest : goal.invariant-loop-rest
invariant-loop-rest l = image_of l.rest l.var.0 ≡ image_of l.images l.var.0

abbrev pub decreases-loop-rest : goal.decreases-loop-rest
decreases-loop-rest l = length l.rest

use Rattle.std.proofs.Common.{◌≡◌, take}
use Rattle.substitution.specs.Objective.{net_terms}
use Rattle.substitution.proofs.objective.net_terms.Given as goal

-- the terms of the images so far
abbrev pub invariant-loop-image : goal.invariant-loop-image
invariant-loop-image l = l.terms.items ≡ net_terms l.nets (take l.image-index l.images)

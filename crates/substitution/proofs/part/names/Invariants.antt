-- What the images so far name.
use Rattle.std.proofs.Common.{◌≡◌, take}
use Rattle.substitution.specs.Part.{names}
use Rattle.substitution.proofs.part.names.Given as goal

abbrev pub invariant-loop-pair : goal.invariant-loop-pair
invariant-loop-pair l = l.variables.items ≡ names (take l.pair-index l.substitution)

use Rattle.std.proofs.Common.{◌≡◌, [], length, take}
use Rattle.presolve.specs.Pairs.{AreTaken}
use Rattle.presolve.proofs.swapping.fixed_ones.Given as goal

-- the variables of the literals so far
abbrev pub invariant-loop-literal : goal.invariant-loop-literal
invariant-loop-literal l = (length l.taken.items ≡ l.count) × AreTaken (take l.literal-index l.fixed) [] l.taken.items

-- The trail has the literals so far, which do not contradict one another.
use Rattle.std.proofs.Common.{◌≡◌, take}
use Rattle.propagate.specs.Literals.{IsConsistent, SameLiterals}
use Rattle.propagate.proofs.trail.Trail.of.Given as goal

abbrev pub invariant-loop-literal : goal.invariant-loop-literal
invariant-loop-literal l =
    (l.trail.1 ≡ l.count) × SameLiterals l.trail.0 (take l.literal-index l.assigned) × IsConsistent (take l.literal-index l.assigned)

-- The number is that of the literals so far.
use Rattle.std.proofs.Common.{◌≡◌, ◌≤◌, take}
use Rattle.linear.specs.Largest.{most_names}
use Rattle.propagate.specs.Literals.{literal_bound}
use Rattle.propagate.proofs.assigned.literal_count.Given as goal

abbrev pub invariant-loop-literal : goal.invariant-loop-literal
invariant-loop-literal l = (l.count ≡ literal_bound (take l.literal-index l.literals)) × (l.count ≤ most_names)

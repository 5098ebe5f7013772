-- The literals so far are there.
use Rattle.std.proofs.Common.{◌≤◌, take}
use Rattle.propagate.specs.Literals.{SameLiterals}
use Rattle.watch.proofs.telling.marks_of.Given as goal

abbrev pub invariant-loop-literal : goal.invariant-loop-literal
invariant-loop-literal l = (l.count ≤ l.marks.1) × SameLiterals l.marks.0 (take l.literal-index l.given)

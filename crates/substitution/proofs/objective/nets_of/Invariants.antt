use Rattle.std.proofs.Common.{◌≡◌, length, take}
use Rattle.substitution.specs.Objective.{AreNetsOf}
use Rattle.substitution.proofs.objective.nets_of.Given as goal

-- the net coefficients of the terms so far
abbrev pub invariant-loop-term : goal.invariant-loop-term
invariant-loop-term l = (length l.nets.items ≡ l.count) × AreNetsOf (take l.term-index l.objective) l.nets.items

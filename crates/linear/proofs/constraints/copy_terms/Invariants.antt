use Rattle.std.proofs.Common.{◌≡◌, take}
use Rattle.linear.proofs.constraints.copy_terms.Given as goal

-- the terms so far
abbrev pub invariant-loop-place : goal.invariant-loop-place
invariant-loop-place l = l.terms ≡ take l.place l.lent.terms

use Rattle.std.proofs.Common.{◌≡◌, take}
use Rattle.presolve.proofs.form.terms_of.Given as goal

-- the terms so far
abbrev pub invariant-loop-place : goal.invariant-loop-place
invariant-loop-place l = l.terms.items ≡ take l.place l.normal.terms

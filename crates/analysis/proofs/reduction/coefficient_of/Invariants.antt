-- The coefficient so far is that of the terms before this place.
use Rattle.std.proofs.Common.{◌≡◌, take}
use Rattle.normal_form.specs.Normal.{only, sum_over}
use Rattle.analysis.proofs.reduction.coefficient_of.Given as goal

abbrev pub invariant-loop-place : goal.invariant-loop-place
invariant-loop-place l = l.coef ≡ sum_over (only (l.literal.var.0) l.literal.negated) (take l.place l.constraint.terms)

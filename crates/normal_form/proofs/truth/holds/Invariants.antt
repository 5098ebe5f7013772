-- The weight so far is that of the terms before this place.
use Rattle.std.proofs.Common.{◌≡◌, take}
use Rattle.linear.specs.Valuation.{valuation_of, literal_true}
use Rattle.normal_form.specs.Normal.{sum_over}
use Rattle.normal_form.proofs.truth.holds.Given as goal

abbrev pub invariant-loop-place : goal.invariant-loop-place
invariant-loop-place l = l.weight ≡ sum_over (literal_true (valuation_of l.assignment)) (take l.place l.constraint.terms)

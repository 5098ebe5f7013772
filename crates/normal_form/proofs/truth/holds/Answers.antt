-- The weight so far is at most the sum of all coefficients, which is at most 2^120.
use Rattle.std.proofs.Common.{◌+◌, arith}
use Rattle.linear.specs.Valuation.{valuation_of, literal_true}
use Rattle.normal_form.proofs.Sums.{sum_over_take}
use Rattle.normal_form.proofs.truth.holds.Goals as goal

pub overflow_add-weight : goal.overflow_add-weight
overflow_add-weight c = grind (arith, sum_over_take (literal_true (valuation_of c.args.assignment.now)) (c.loop-place.place + 1) c.args.constraint.now.terms, c.len-place-end.ensures.normal.fits.sum, c.counted-weight.ensures, c.loop-place.invariant)

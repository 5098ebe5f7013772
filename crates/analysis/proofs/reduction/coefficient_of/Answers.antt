-- It is at most the sum of all coefficients, which is at most 2^120.
use Rattle.std.proofs.Common.{◌+◌, arith}
use Rattle.normal_form.specs.Normal.{only}
use Rattle.normal_form.proofs.Sums.{sum_over_take}
use Rattle.analysis.proofs.reduction.coefficient_of.Goals as goal

pub overflow_add-coef : goal.overflow_add-coef
overflow_add-coef c = grind (arith, sum_over_take (only (c.args.literal.var.0) c.args.literal.negated) (c.loop-place.place + 1) c.args.constraint.now.terms, c.len-place-end.ensures.normal.fits.sum, c.counted-coef.ensures, c.loop-place.invariant)

-- The sum so far is at most the sum of all coefficients, which is at most 2^120.
use Rattle.std.proofs.Common.{◌+◌, arith}
use Rattle.normal_form.proofs.Sums.{sum_over_take}
use Rattle.propagate.specs.Slack.{not_false}
use Rattle.analysis.specs.Biting.{literals_up_to}
use Rattle.analysis.proofs.slack.open_sum.Goals as goal

pub overflow_add-sum : goal.overflow_add-sum
overflow_add-sum c = grind (arith, sum_over_take (not_false (literals_up_to c.args.level c.args.trail.now.entries)) (c.loop-place.place + 1) c.args.constraint.now.terms, c.len-place-end.ensures.normal.fits.sum, c.counted-sum.ensures, c.loop-place.invariant)

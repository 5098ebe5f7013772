-- The kept sum is below the degree, and no weight is above the sum.
use Rattle.std.proofs.Common.{◌<◌, arith}
use Rattle.std.proofs.lemmas.Bool.Decides.{nat_tests}
use Rattle.normal_form.specs.Normal.{total}
use Rattle.normal_form.proofs.Sums.{holds_nowhere}
use Rattle.normal_form.proofs.truth.is_contradiction.Goals as goal

pub returns-clause-none : goal.returns-clause-none
returns-clause-none c above a h =
    let exceeds : total c.args.constraint.now.terms < c.args.constraint.now.degree = grind (arith, nat_tests) in
    holds_nowhere c.args.constraint.now exceeds a h

-- The first literal has what its opposite does not cancel.
use Rattle.std.proofs.Common.{false, arith}
use Rattle.cut_rules.proofs.cases.sum_of_two.Goals as goal

pub returns-clause-not_cancelled : goal.returns-clause-not_cancelled
returns-clause-not_cancelled c g = omega (arith, g.coefficients 1 false)

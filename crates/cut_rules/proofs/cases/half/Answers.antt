-- A quotient of 1 is too small for 3, and one of 2 is more than 1 needs.
use Rattle.std.proofs.Common.{false, arith}
use Rattle.cut_rules.proofs.cases.half.Goals as goal

pub returns-clause-rounded_down : goal.returns-clause-rounded_down
returns-clause-rounded_down c g = omega (arith, (g.coefficients 1 false).enough)

pub returns-clause-too_far : goal.returns-clause-too_far
returns-clause-too_far c g = omega (arith, (g.coefficients 2 false).least 1 (omega arith))

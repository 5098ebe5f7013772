-- The literals' coefficients differ.
use Rattle.std.proofs.Common.{false, arith}
use Rattle.cut_rules.proofs.cases.axiom_of_negated.Goals as goal

pub returns-clause-turned : goal.returns-clause-turned
returns-clause-turned c g = omega (arith, g.coefficients 7 false)

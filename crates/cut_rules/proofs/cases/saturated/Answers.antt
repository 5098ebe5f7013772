-- The first literal has the degree, no more and no less.
use Rattle.std.proofs.Common.{false, arith}
use Rattle.cut_rules.proofs.cases.saturated.Goals as goal

pub returns-clause-excess_kept : goal.returns-clause-excess_kept
returns-clause-excess_kept c g = omega (arith, g.coefficients 1 false)

pub returns-clause-one_short : goal.returns-clause-one_short
returns-clause-one_short c g = omega (arith, g.coefficients 1 false)

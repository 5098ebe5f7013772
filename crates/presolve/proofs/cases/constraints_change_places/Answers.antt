use Rattle.std.proofs.Common.{arith}
use Rattle.presolve.proofs.Alike.{each_symmetric, lopsided_asymmetric}
use Rattle.presolve.proofs.cases.constraints_change_places.Goals as goal

pub returns-clause-both : goal.returns-clause-both
returns-clause-both c = record { order = omega arith; variable = omega arith; constraints = each_symmetric; objective = tt }

pub returns-clause-one : goal.returns-clause-one
returns-clause-one c s = lopsided_asymmetric s.constraints

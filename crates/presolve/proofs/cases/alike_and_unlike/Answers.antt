use Rattle.std.proofs.Common.{arith}
use Rattle.std.proofs.lemmas.Int.{ints}
use Rattle.presolve.proofs.Alike.{alike_symmetric, unlike_asymmetric}
use Rattle.presolve.proofs.cases.alike_and_unlike.Goals as goal

pub returns-clause-alike : goal.returns-clause-alike
returns-clause-alike c = record { order = omega arith; variable = omega arith; constraints = alike_symmetric; objective = tt }

pub returns-clause-turned : goal.returns-clause-turned
returns-clause-turned c s = omega (arith, s.order)

pub returns-clause-itself : goal.returns-clause-itself
returns-clause-itself c s = omega (arith, s.order)

pub returns-clause-unlike : goal.returns-clause-unlike
returns-clause-unlike c s = unlike_asymmetric s.constraints

pub returns-clause-priced : goal.returns-clause-priced
returns-clause-priced c s = omega (arith, ints, s.objective)

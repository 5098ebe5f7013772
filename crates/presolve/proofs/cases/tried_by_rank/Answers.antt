use Rattle.std.proofs.Common.{arith}
use Rattle.presolve.proofs.cases.tried_by_rank.Goals as goal

pub returns-clause-beyond : goal.returns-clause-beyond
returns-clause-beyond c p fixed used e u = omega (arith, u.tried)

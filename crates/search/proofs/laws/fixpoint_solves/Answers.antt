use Rattle.search.proofs.Solutions.{fixpoint_sol, fixpoint_soli}
use Rattle.search.proofs.laws.fixpoint_solves.Goals as goal

pub returns-clause-solution : goal.returns-clause-solution
returns-clause-solution _ = fixpoint_sol

pub returns-clause-improving : goal.returns-clause-improving
returns-clause-improving _ = fixpoint_soli

-- What is forced by fewer literals is listed, or forced, or leads to a conflict in the fixpoint assignment.
use Rattle.propagate.proofs.ChainEnds.{fixpoint_stays, fixpoint_free}
use Rattle.propagate.proofs.laws.fixpoint_end.Goals as goal

pub returns-clause-stays : goal.returns-clause-stays
returns-clause-stays _ ns fixpoint given chain q h c l e = fixpoint_stays ns fixpoint given chain q h c l e

pub returns-clause-no_conflict : goal.returns-clause-no_conflict
returns-clause-no_conflict _ ns fixpoint given q h r = fixpoint_free ns fixpoint given q h r

-- A fixpoint would have the whole assignment in it.
use Rattle.propagate.proofs.KeptChains.{reached_refutes, asked_refutes}
use Rattle.propagate.proofs.laws.conflict_refutes.Goals as goal

pub returns-clause-reached : goal.returns-clause-reached
returns-clause-reached c = reached_refutes

pub returns-clause-asked : goal.returns-clause-asked
returns-clause-asked c = asked_refutes

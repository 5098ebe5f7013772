-- A chain continued is a chain, and more literals lead to no fewer conflicts.
use Rattle.propagate.proofs.KeptChains.{conflict_kept, reached_kept}
use Rattle.propagate.proofs.laws.chain_kept.Goals as goal

pub returns-clause-conflict : goal.returns-clause-conflict
returns-clause-conflict c = conflict_kept

pub returns-clause-reached : goal.returns-clause-reached
returns-clause-reached c = reached_kept

-- What is left out follows from what stands before the last literal.
use Rattle.propagate.proofs.LastTraced.{conflict_of_last, end_of_last}
use Rattle.propagate.proofs.laws.last_traced.Goals as goal

pub returns-clause-conflict : goal.returns-clause-conflict
returns-clause-conflict c = conflict_of_last

pub returns-clause-end : goal.returns-clause-end
returns-clause-end c = end_of_last

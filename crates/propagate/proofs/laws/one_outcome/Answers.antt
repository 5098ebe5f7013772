-- The slow search ends.
use Rattle.propagate.proofs.SearchEnds as ending
use Rattle.propagate.proofs.Consistency.{one_closure}
use Rattle.propagate.proofs.laws.one_outcome.Goals as goal

pub returns-clause-ends : goal.returns-clause-ends
returns-clause-ends _ ns given = ending.one_outcome ns given

pub returns-clause-one : goal.returns-clause-one
returns-clause-one _ ns given closed other f g l = one_closure ns given closed other f g l

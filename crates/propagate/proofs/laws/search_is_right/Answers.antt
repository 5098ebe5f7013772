-- Each step adds a forced literal; where none is left, the assignment is a fixpoint.
use Rattle.propagate.proofs.SearchIsRight.{conflict_met, closure_met, no_conflict_met}
use Rattle.propagate.proofs.laws.search_is_right.Goals as goal

pub returns-clause-conflict : goal.returns-clause-conflict
returns-clause-conflict _ steps ns given h = conflict_met steps ns given h

pub returns-clause-closure : goal.returns-clause-closure
returns-clause-closure _ steps ns given closed h = closure_met steps ns given closed h

pub returns-clause-no_conflict : goal.returns-clause-no_conflict
returns-clause-no_conflict _ steps ns given closed h = no_conflict_met steps ns given closed h

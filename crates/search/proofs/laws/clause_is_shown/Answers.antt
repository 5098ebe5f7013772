use Rattle.search.proofs.Clauses.{clause_shown, clause_legal}
use Rattle.search.proofs.laws.clause_is_shown.Goals as goal

pub returns-clause-shown : goal.returns-clause-shown
returns-clause-shown _ = clause_shown

pub returns-clause-legal : goal.returns-clause-legal
returns-clause-legal _ = clause_legal

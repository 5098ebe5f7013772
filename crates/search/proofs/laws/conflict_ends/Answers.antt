use Rattle.search.proofs.Ending.{refuted_shows, unsatisfiable, optimum}
use Rattle.search.proofs.laws.conflict_ends.Goals as goal

pub returns-clause-shown : goal.returns-clause-shown
returns-clause-shown _ = refuted_shows

pub returns-clause-unsatisfiable : goal.returns-clause-unsatisfiable
returns-clause-unsatisfiable _ = unsatisfiable

pub returns-clause-optimum : goal.returns-clause-optimum
returns-clause-optimum _ = optimum

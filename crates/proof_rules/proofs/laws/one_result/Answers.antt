use Rattle.proof_rules.proofs.OneStart.{one_start}
use Rattle.proof_rules.proofs.OneState.{one_state, one_justified}
use Rattle.proof_rules.proofs.laws.one_result.Goals as goal

pub returns-clause-step : goal.returns-clause-step
returns-clause-step _ = one_state

pub returns-clause-conclusion : goal.returns-clause-conclusion
returns-clause-conclusion _ = one_justified

pub returns-clause-start : goal.returns-clause-start
returns-clause-start _ = one_start

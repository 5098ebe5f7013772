use Rattle.proof_log.proofs.Naming.{soli_named, start_named, step_named}
use Rattle.proof_log.proofs.laws.live_stays_named.Goals as goal

pub returns-clause-start : goal.returns-clause-start
returns-clause-start _ = start_named

pub returns-clause-step : goal.returns-clause-step
returns-clause-step _ = step_named

pub returns-clause-improved : goal.returns-clause-improved
returns-clause-improved _ = soli_named

use Rattle.proof_log.proofs.StaysLive.{file_live, improvement_live, kept_spared, kept_improved}
use Rattle.proof_log.proofs.laws.kept_stays_live.Goals as goal

pub returns-clause-file : goal.returns-clause-file
returns-clause-file _ = file_live

pub returns-clause-improvement : goal.returns-clause-improvement
returns-clause-improvement _ = improvement_live

pub returns-clause-spared : goal.returns-clause-spared
returns-clause-spared _ = kept_spared

pub returns-clause-improved : goal.returns-clause-improved
returns-clause-improved _ = kept_improved

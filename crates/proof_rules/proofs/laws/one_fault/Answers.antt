use Rattle.proof_rules.proofs.OneConclusionFault.{one_conclusion_fault}
use Rattle.proof_rules.proofs.OneStepFault.{one_step_fault}
use Rattle.proof_rules.proofs.laws.one_fault.Goals as goal

pub returns-clause-step : goal.returns-clause-step
returns-clause-step _ = one_step_fault

pub returns-clause-conclusion : goal.returns-clause-conclusion
returns-clause-conclusion _ = one_conclusion_fault

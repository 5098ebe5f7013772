use Rattle.proof_rules.proofs.StepJudged.{step_judged, faultless_legal}
use Rattle.proof_rules.proofs.laws.every_step_is_judged.Goals as goal

pub returns-clause-judged : goal.returns-clause-judged
returns-clause-judged _ = step_judged

pub returns-clause-faultless : goal.returns-clause-faultless
returns-clause-faultless _ = faultless_legal

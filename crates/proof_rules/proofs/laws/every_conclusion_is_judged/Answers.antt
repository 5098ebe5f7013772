use Rattle.proof_rules.proofs.ConclusionJudged.{conclusion_judged, faultless_justified}
use Rattle.proof_rules.proofs.laws.every_conclusion_is_judged.Goals as goal

pub returns-clause-judged : goal.returns-clause-judged
returns-clause-judged _ = conclusion_judged

pub returns-clause-faultless : goal.returns-clause-faultless
returns-clause-faultless _ = faultless_justified

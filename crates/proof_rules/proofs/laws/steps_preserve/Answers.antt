use Rattle.proof_rules.proofs.Preserving as preserving
use Rattle.proof_rules.proofs.laws.steps_preserve.Goals as goal

pub returns-clause-answer : goal.returns-clause-answer
returns-clause-answer _ p s t steps kept normal leads = (preserving.steps_preserve p s steps t kept normal leads).0

pub returns-clause-normal : goal.returns-clause-normal
returns-clause-normal _ p s t steps kept normal leads = (preserving.steps_preserve p s steps t kept normal leads).1

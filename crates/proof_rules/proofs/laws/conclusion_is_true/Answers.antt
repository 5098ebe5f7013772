use Rattle.proof_rules.proofs.Concluding.{justified_claim}
use Rattle.proof_rules.proofs.laws.conclusion_is_true.Goals as goal

pub returns : goal.returns
returns _ = justified_claim

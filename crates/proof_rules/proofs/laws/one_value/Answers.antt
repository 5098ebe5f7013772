use Rattle.proof_rules.proofs.Determined.{one_polish}
use Rattle.proof_rules.proofs.laws.one_value.Goals as goal

pub returns : goal.returns
returns _ = one_polish

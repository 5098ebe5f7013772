use Rattle.proof_rules.proofs.NotLegal.{conclusion_never}
use Rattle.proof_rules.proofs.laws.faulty_is_not_justified.Goals as goal

pub returns : goal.returns
returns _ = conclusion_never

use Rattle.proof_rules.proofs.ShownHolds.{zero_shown}
use Rattle.proof_rules.proofs.laws.degree_zero_is_shown.Goals as goal

pub returns : goal.returns
returns _ = zero_shown

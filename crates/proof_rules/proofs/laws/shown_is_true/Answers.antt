use Rattle.proof_rules.proofs.ShownHolds.{shown_holds}
use Rattle.proof_rules.proofs.laws.shown_is_true.Goals as goal

pub returns : goal.returns
returns _ = shown_holds

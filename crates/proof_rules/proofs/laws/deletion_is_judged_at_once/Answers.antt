use Rattle.proof_rules.proofs.DelAtOnce.{at_once, in_turn}
use Rattle.proof_rules.proofs.laws.deletion_is_judged_at_once.Goals as goal

pub returns : goal.returns
returns _ s ids = (λ (t, legal). at_once s t ids legal, in_turn s ids)

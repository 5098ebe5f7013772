use Rattle.checker.proofs.ProvedAccepted.{proved_accepted}
use Rattle.checker.proofs.laws.what_is_proved_is_accepted.Goals as goal

pub returns : goal.returns
returns c opb proof p spells within a proved v verdict = proved_accepted opb proof p spells within a proved v verdict

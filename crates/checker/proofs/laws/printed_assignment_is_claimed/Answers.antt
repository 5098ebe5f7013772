use Rattle.checker.proofs.PrintedClaim.{printed_claim}
use Rattle.checker.proofs.laws.printed_assignment_is_claimed.Goals as goal

pub returns : goal.returns
returns c opb proof a t values text best printed = printed_claim opb proof a t values text best printed

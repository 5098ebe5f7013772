-- The closure is what one chain has, and the constraint would lengthen it.
use Rattle.propagate.proofs.JoinedChains.{never_bites}
use Rattle.propagate.proofs.laws.copy_never_bites.Goals as goal

pub returns : goal.returns
returns _ ns n here b = never_bites ns n here b

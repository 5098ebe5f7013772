-- Else the closure of the more would be fixpoint, and no chain leaves it.
use Rattle.propagate.proofs.Closure as closure
use Rattle.propagate.proofs.laws.more_literals.Goals as goal

pub returns : goal.returns
returns _ ns given more h r = closure.more_literals ns given more h r

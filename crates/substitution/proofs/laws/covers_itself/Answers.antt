-- There is no excess.
use Rattle.substitution.proofs.Covered as covering
use Rattle.substitution.proofs.laws.covers_itself.Goals as goal

pub returns : goal.returns
returns _ n = covering.covers_itself n

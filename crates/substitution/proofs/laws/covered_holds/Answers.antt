-- The true literals are worth no more than the other constraint has there and the excess.
use Rattle.substitution.proofs.Covered as covering
use Rattle.substitution.proofs.laws.covered_holds.Goals as goal

pub returns : goal.returns
returns _ e n r c a h = covering.covered_holds e n r c a h

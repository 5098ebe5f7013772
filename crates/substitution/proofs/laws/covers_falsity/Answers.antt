-- Over no terms the excess is the coefficient sum.
use Rattle.substitution.proofs.Covered as covering
use Rattle.substitution.proofs.laws.covers_falsity.Goals as goal

pub returns : goal.returns
returns _ e n t d = covering.covers_falsity e n t d

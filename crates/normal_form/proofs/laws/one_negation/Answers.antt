-- The opposite literals with the degree of the definition are the negation, and the coefficients determine it.
use Rattle.normal_form.proofs.Negations as opposites
use Rattle.normal_form.proofs.laws.one_negation.Goals as goal

pub returns : goal.returns
returns _ n r = (opposites.negation n, opposites.negation_is n r, λ k g. opposites.one_negation n k (opposites.negation n) r g (opposites.negation_is n r))

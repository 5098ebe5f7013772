-- Of each literal and its opposite one is true.
use Rattle.normal_form.proofs.Negations as opposites
use Rattle.normal_form.proofs.laws.negation_meaning.Goals as goal

pub returns : goal.returns
returns _ n m r g a = opposites.negation_meaning n m r g a

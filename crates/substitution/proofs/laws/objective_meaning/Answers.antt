-- The sum after the substitution is that of the terms with images put in and what is constant.
use Rattle.substitution.proofs.Images as images
use Rattle.substitution.proofs.laws.objective_meaning.Goals as goal

pub returns : goal.returns
returns _ objective r w f a = images.objective_meaning objective r w f a

-- The sum of the terms with images put in, and what is constant, is the sum at the assignment after the substitution.
use Rattle.substitution.proofs.Images as images
use Rattle.substitution.proofs.laws.under_meaning.Goals as goal

pub returns : goal.returns
returns _ n r w f a = images.under_meaning n r w f a

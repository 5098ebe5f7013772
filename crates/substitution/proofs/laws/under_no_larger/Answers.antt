-- No coefficient grows, and what merging raises the degree by stands in negated terms.
use Rattle.substitution.proofs.Sizes.{sum_no_larger, degree_no_larger}
use Rattle.substitution.proofs.laws.under_no_larger.Goals as goal

pub returns-clause-sum : goal.returns-clause-sum
returns-clause-sum _ n r w f = sum_no_larger n r w f

pub returns-clause-degree : goal.returns-clause-degree
returns-clause-degree _ n r w f = degree_no_larger n r w f

-- Its degree is its coefficient sum and one.
use Rattle.propagate.proofs.DegreeZero.{zero_falsified, zero_refuted}
use Rattle.propagate.proofs.laws.degree_zero.Goals as goal

pub returns-clause-falsified : goal.returns-clause-falsified
returns-clause-falsified _ n m r z g = zero_falsified n m r z g

pub returns-clause-refuted : goal.returns-clause-refuted
returns-clause-refuted _ n m r z g ns here = zero_refuted n m r z g ns here

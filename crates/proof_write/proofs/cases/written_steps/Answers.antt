use Rattle.std.proofs.Common.{refl}
use Rattle.std.specs.Fmt.{digits}
use Rattle.proof_write.proofs.cases.written_steps.Goals as goal

pub returns-clause-pol : goal.returns-clause-pol
unfolding digits
returns-clause-pol c = refl

pub returns-clause-rup : goal.returns-clause-rup
unfolding digits
returns-clause-rup c = refl

pub returns-clause-red : goal.returns-clause-red
unfolding digits
returns-clause-red c = refl

pub returns-clause-red_to_zero : goal.returns-clause-red_to_zero
unfolding digits
returns-clause-red_to_zero c = refl

pub returns-clause-solution : goal.returns-clause-solution
unfolding digits
returns-clause-solution c = refl

pub returns-clause-improving : goal.returns-clause-improving
unfolding digits
returns-clause-improving c = refl

pub returns-clause-deletion : goal.returns-clause-deletion
unfolding digits
returns-clause-deletion c = refl

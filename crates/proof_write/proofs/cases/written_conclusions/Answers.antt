use Rattle.std.proofs.Common.{refl}
use Rattle.std.specs.Fmt.{digits}
use Rattle.proof_write.proofs.cases.written_conclusions.Goals as goal

pub returns-clause-bounds : goal.returns-clause-bounds
unfolding digits
returns-clause-bounds c = refl

pub returns-clause-no_bounds : goal.returns-clause-no_bounds
unfolding digits
returns-clause-no_bounds c = refl

pub returns-clause-infinite : goal.returns-clause-infinite
unfolding digits
returns-clause-infinite c = refl

pub returns-clause-unsatisfiable : goal.returns-clause-unsatisfiable
unfolding digits
returns-clause-unsatisfiable c = refl

pub returns-clause-satisfied : goal.returns-clause-satisfied
unfolding digits
returns-clause-satisfied c = refl

pub returns-clause-satisfiable : goal.returns-clause-satisfiable
unfolding digits
returns-clause-satisfiable c = refl

pub returns-clause-nothing : goal.returns-clause-nothing
unfolding digits
returns-clause-nothing c = refl

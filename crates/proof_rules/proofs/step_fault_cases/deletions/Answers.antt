use Rattle.std.proofs.Common.{refl}
use Rattle.proof_rules.proofs.SmallStates.{first_live, second_live, first_left}
use Rattle.proof_rules.proofs.step_fault_cases.deletions.Goals as goal

pub returns-clause-file : goal.returns-clause-file
returns-clause-file c = (first_live, refl)

pub returns-clause-derived : goal.returns-clause-derived
returns-clause-derived c = (second_live, refl)

pub returns-clause-from_the_end : goal.returns-clause-from_the_end
returns-clause-from_the_end c = (second_live, refl)

pub returns-clause-both : goal.returns-clause-both
returns-clause-both c = (second_live, (first_left, refl))

pub returns-clause-nothing : goal.returns-clause-nothing
returns-clause-nothing c = refl

use Rattle.std.proofs.Common.{pos, [], ◌∷◌, refl}
use Rattle.proof_rules.specs.Cases.{cover_file, derived_state}
use Rattle.proof_rules.specs.Legal.{without}
use Rattle.proof_rules.specs.declared.fault.StepFault.TheVariants.{DeadId}
use Rattle.proof_steps.specs.declared.step.Step.TheVariants as steps
use Rattle.proof_rules.proofs.NotLegal.{step_never}
use Rattle.proof_rules.proofs.SmallStates.{first_live, second_live, derived_gone, never_given}
use Rattle.proof_rules.proofs.step_fault_cases.deletions_at_fault.Goals as goal

pub returns-clause-twice : goal.returns-clause-twice
returns-clause-twice c = (pos 2 ∷ [], pos 2, [], without 2 derived_state, refl, (second_live, refl), derived_gone)

pub returns-clause-never_given : goal.returns-clause-never_given
returns-clause-never_given c = (pos 1 ∷ [], pos 9, [], without 1 derived_state, refl, (first_live, refl), never_given)

pub returns-clause-file : goal.returns-clause-file
returns-clause-file c h = h

pub returns-clause-live : goal.returns-clause-live
returns-clause-live c h = step_never cover_file derived_state (steps.Del (pos 1 ∷ [])) DeadId (without 1 derived_state) (refl, h) (refl, (first_live, refl))

use Rattle.std.proofs.Common.{[], ◌∷◌, None, refl}
use Rattle.proof_rules.specs.Cases.{cover_file, both, cover_state, contradicting_state}
use Rattle.proof_rules.proofs.SmallStates.{alone_is_best}
use Rattle.proof_steps.specs.declared.conclusion.Conclusion.TheVariants.{Nothing}
use Rattle.proof_rules.specs.declared.fault.StepFault.{StepFault}
use Rattle.proof_rules.specs.declared.fault.StepFault.TheVariants as faults
use Rattle.proof_rules.specs.Fault.{IsConclusionFault}
use Rattle.proof_rules.specs.State.{State, IsOutside}
use Rattle.proof_rules.proofs.conclusion_cases.nothing_concluded.Goals as goal

pub returns-clause-unlogged : goal.returns-clause-unlogged
returns-clause-unlogged c = (refl, (cover_state None [], refl, tt, refl))

pub returns-clause-logged : goal.returns-clause-logged
returns-clause-logged c = (refl, (cover_state None (both ∷ []), refl, tt, alone_is_best cover_file both))

pub returns-clause-contradicting : goal.returns-clause-contradicting
returns-clause-contradicting c = (refl, (contradicting_state, refl, tt, refl))

none : (s : State) (f : StepFault) → IsOutside s → IsConclusionFault cover_file s Nothing f → ⊥
none s faults.BlockOpen outside h = h outside
none s f outside h = h.1

pub returns-clause-no_fault : goal.returns-clause-no_fault
returns-clause-no_fault c = none

use Rattle.std.proofs.Common.{◌≡◌, inr, [], ◌∷◌, refl, arith}
use Rattle.propagate.specs.Cases.{x, not_x}
use Rattle.proof_rules.specs.Cases.{cover, not_second_alone, least_of_three, derived_state}
use Rattle.proof_rules.specs.Fault.{IsSolFault}
use Rattle.proof_rules.specs.State.{constraints}
use Rattle.proof_rules.specs.declared.fault.StepFault.TheVariants.{SolutionConflict, SolutionPartial}
use Rattle.proof_rules.proofs.OneStepFault.{one_sol_fault}
use Rattle.proof_rules.proofs.SmallStates.{live_of, one_consistent, unnamed, derived_conflict, leaves_open}
use Rattle.proof_rules.proofs.solution_cases.conflict_before_what_is_open.Goals as goal

conflict : IsSolFault least_of_three derived_state (not_x 0 ∷ []) SolutionConflict
conflict = inr (one_consistent (not_x 0), unnamed 3 2 (not_x 0 ∷ []) (omega arith) (λ b. refl), derived_conflict)

pub returns-clause-conflict : goal.returns-clause-conflict
returns-clause-conflict c = conflict

pub returns-clause-not_open : goal.returns-clause-not_open
returns-clause-not_open c h =
    let same : SolutionConflict ≡ SolutionPartial = one_sol_fault least_of_three derived_state (not_x 0 ∷ []) SolutionConflict SolutionPartial conflict h in
    absurd (cc)

open_third : IsSolFault least_of_three derived_state (not_x 1 ∷ []) SolutionPartial
open_third =
    leaves_open 4 (constraints derived_state) (cover ∷ not_second_alone ∷ []) (not_x 1 ∷ []) (not_x 1 ∷ x 0 ∷ []) 3 2 (live_of (cover ∷ not_second_alone ∷ []))
    (one_consistent (not_x 1)) refl (omega arith) (λ b. refl)

pub returns-clause-open : goal.returns-clause-open
returns-clause-open c = open_third

pub returns-clause-not_conflict : goal.returns-clause-not_conflict
returns-clause-not_conflict c h =
    let same : SolutionPartial ≡ SolutionConflict = one_sol_fault least_of_three derived_state (not_x 1 ∷ []) SolutionPartial SolutionConflict open_third h in
    absurd (cc)

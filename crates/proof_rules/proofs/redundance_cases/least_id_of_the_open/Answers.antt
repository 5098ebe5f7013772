use Rattle.std.proofs.Common.{◌≡◌, ℕ, List, [], ◌∷◌, ◌++◌, inr, refl, sym, subst, arith}
use Rattle.normal_form.specs.Normal.{NormalConstraint}
use Rattle.normal_form.proofs.NormalForm.{is_form}
use Rattle.propagate.specs.Cases.{x, not_x, unit, unit_not}
use Rattle.proof_steps.specs.declared.step.Step.TheVariants.{Red}
use Rattle.substitution.specs.Cases.{single}
use Rattle.substitution.specs.Under.{substituted}
use Rattle.substitution.specs.declared.image.Image.TheVariants.{Zero}
use Rattle.proof_rules.specs.Cases.{cover_file, cover, not_second_alone, not_first_written, derived_state}
use Rattle.proof_rules.specs.Fault.{IsGoalFault, IsRedFault}
use Rattle.proof_rules.specs.Redundant.{IsShownUnder}
use Rattle.proof_rules.specs.declared.fault.StepFault.TheVariants.{GoalOpen, GoalOpenSelf}
use Rattle.proof_rules.proofs.OneStepFault.{one_step_fault}
use Rattle.proof_rules.proofs.ShownBySearch.{not_shown_under}
use Rattle.proof_rules.proofs.SmallStates.{found_in, live_of, none_below_one}
use Rattle.proof_rules.proofs.SmallConstraints.{not_first_admitted, not_first_negated}
use Rattle.proof_rules.proofs.redundance_cases.least_id_of_the_open.Goals as goal

abbrev live : List NormalConstraint
live = cover ∷ not_second_alone ∷ []

open_first : IsShownUnder (live ++ unit 0 ∷ []) (single 0 Zero) cover → ⊥
open_first =
    not_shown_under 4 (live ++ unit 0 ∷ []) (single 0 Zero) cover (unit 1) (unit_not 1) (x 0 ∷ not_x 1 ∷ [])
    (is_form (substituted cover (single 0 Zero)) (unit 1) (omega arith, omega arith, tt) (λ set. refl) refl)
    (record { rises = (omega arith, omega arith, tt); terms = refl; degree = refl }) refl refl

fault : IsRedFault cover_file derived_state not_first_written (single 0 Zero) (GoalOpen 1)
fault = inr (
  unit_not 0,
  unit 0,
  not_first_admitted,
  omega arith,
  not_first_negated,
  subst (λ ns. IsGoalFault cover_file derived_state (ns ++ unit 0 ∷ []) (single 0 Zero) (unit_not 0) (GoalOpen 1)) (sym (live_of live))
      (cover, found_in live 1, open_first, none_below_one live (IsShownUnder (live ++ unit 0 ∷ []) (single 0 Zero)) refl),
)

pub returns-clause-first : goal.returns-clause-first
returns-clause-first c = fault

pub returns-clause-not_second : goal.returns-clause-not_second
returns-clause-not_second c h =
    let same : GoalOpen 1 ≡ GoalOpen 2 = one_step_fault cover_file derived_state (Red not_first_written (single 0 Zero)) (GoalOpen 1) (GoalOpen 2) (refl, fault) (refl, h) in
    let ids : ◌≡◌ {A = ℕ} 1 2 = cc in absurd (omega (arith, ids))

pub returns-clause-not_itself : goal.returns-clause-not_itself
returns-clause-not_itself c h =
    let same : GoalOpen 1 ≡ GoalOpenSelf = one_step_fault cover_file derived_state (Red not_first_written (single 0 Zero)) (GoalOpen 1) GoalOpenSelf (refl, fault) (refl, h) in
    absurd (cc)

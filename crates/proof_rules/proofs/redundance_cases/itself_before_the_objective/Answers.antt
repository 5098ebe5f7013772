use Rattle.std.proofs.Common.{◌≡◌, List, [], ◌∷◌, ◌++◌, inr, All, refl, sym, subst, arith}
use Rattle.std.proofs.lemmas.Int.{ints}
use Rattle.normal_form.specs.Normal.{NormalConstraint}
use Rattle.normal_form.proofs.NormalForm.{is_form}
use Rattle.propagate.specs.Cases.{x, unit, unit_not}
use Rattle.proof_steps.specs.declared.step.Step.TheVariants.{Red}
use Rattle.substitution.specs.Cases.{single}
use Rattle.substitution.specs.Under.{substituted}
use Rattle.substitution.specs.declared.image.Image.TheVariants.{One}
use Rattle.proof_rules.specs.Cases.{least_cover, cover, not_first_written, cover_start}
use Rattle.proof_rules.specs.Fault.{IsRedFault}
use Rattle.proof_rules.specs.Redundant.{IsShownUnder}
use Rattle.proof_rules.specs.declared.fault.StepFault.TheVariants.{GoalOpen, GoalOpenSelf, GoalOpenObjective}
use Rattle.proof_rules.proofs.OneStepFault.{one_step_fault}
use Rattle.proof_rules.proofs.ShownBySearch.{not_shown_under}
use Rattle.proof_rules.proofs.SmallStates.{live_of}
use Rattle.proof_rules.proofs.SmallConstraints.{not_first_admitted, not_first_negated, second_is_one}
use Rattle.proof_rules.proofs.redundance_cases.itself_before_the_objective.Goals as goal

abbrev OwnOpen : List NormalConstraint → Type 0
OwnOpen live = All (IsShownUnder (live ++ unit 0 ∷ []) (single 1 One)) live × (IsShownUnder (live ++ unit 0 ∷ []) (single 1 One) (unit_not 0) → ⊥)

own_open : OwnOpen (cover ∷ [])
own_open = (
  second_is_one (cover ∷ unit 0 ∷ []),
  not_shown_under 3 (cover ∷ unit 0 ∷ []) (single 1 One) (unit_not 0) (unit_not 0) (unit 0) (x 0 ∷ [])
      (is_form (substituted (unit_not 0) (single 1 One)) (unit_not 0) (omega arith, omega arith, tt) (λ set. omega (arith, ints)) refl)
      (record { rises = (omega arith, omega arith, tt); terms = refl; degree = refl }) refl refl,
)

fault : IsRedFault least_cover cover_start not_first_written (single 1 One) GoalOpenSelf
fault = inr (unit_not 0, unit 0, not_first_admitted, omega arith, not_first_negated, subst OwnOpen (sym (live_of (cover ∷ []))) own_open)

pub returns-clause-itself : goal.returns-clause-itself
returns-clause-itself c = fault

pub returns-clause-not_objective : goal.returns-clause-not_objective
returns-clause-not_objective c h =
    let same : GoalOpenSelf ≡ GoalOpenObjective = one_step_fault least_cover cover_start (Red not_first_written (single 1 One)) GoalOpenSelf GoalOpenObjective (refl, fault) (refl, h) in
    absurd (cc)

pub returns-clause-not_live : goal.returns-clause-not_live
returns-clause-not_live c h =
    let same : GoalOpenSelf ≡ GoalOpen 1 = one_step_fault least_cover cover_start (Red not_first_written (single 1 One)) GoalOpenSelf (GoalOpen 1) (refl, fault) (refl, h) in
    absurd (cc)

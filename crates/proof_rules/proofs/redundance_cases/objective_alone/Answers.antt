use Rattle.std.proofs.Common.{◌≡◌, List, [], ◌∷◌, ◌++◌, Bool, true, false, if◌then◌else◌, pos, negsuc, ◌+ℤ◌, inr, All, refl, sym, subst, arith}
use Rattle.std.proofs.lemmas.Int.{ints}
use Rattle.normal_form.specs.Cases.{normal}
use Rattle.normal_form.specs.Normal.{NormalConstraint}
use Rattle.normal_form.proofs.NormalForm.{is_form}
use Rattle.propagate.specs.Cases.{x, not_x, unit, unit_not}
use Rattle.proof_steps.specs.declared.step.Step.TheVariants.{Red}
use Rattle.substitution.specs.Cases.{single}
use Rattle.substitution.specs.Objective.{not_raised}
use Rattle.substitution.specs.Under.{substituted}
use Rattle.substitution.specs.declared.image.Image.TheVariants.{One}
use Rattle.proof_rules.specs.Cases.{cover_file, least_cover, min_both, cover, first_written, cover_start}
use Rattle.proof_rules.specs.Fault.{IsRedFault}
use Rattle.proof_rules.specs.Legal.{LegalRed}
use Rattle.proof_rules.specs.Redundant.{IsShownUnder, IsShownNotRaised, Redundant}
use Rattle.proof_rules.specs.State.{with_constraint}
use Rattle.proof_rules.specs.declared.fault.StepFault.TheVariants.{GoalOpenSelf, GoalOpenObjective}
use Rattle.proof_rules.proofs.NotLegal.{step_never}
use Rattle.proof_rules.proofs.OneStepFault.{one_step_fault}
use Rattle.proof_rules.proofs.ShownHolds.{zero_shown}
use Rattle.proof_rules.proofs.ShownBySearch.{not_shown_kept}
use Rattle.proof_rules.proofs.SmallStates.{live_of}
use Rattle.proof_rules.proofs.SmallConstraints.{first_admitted, first_negated, first_is_one}
use Rattle.proof_rules.proofs.redundance_cases.objective_alone.Goals as goal

-- the new constraint comes to `>= 0`
itself : (from : List NormalConstraint) → IsShownUnder from (single 0 One) (unit 0)
itself from = (normal [] 0, is_form (substituted (unit 0) (single 0 One)) (normal [] 0) tt (λ set. refl) refl, zero_shown from (normal [] 0) tt refl)

-- a variable that stays adds nothing to a set, whether it is in it or not
stays : (b : Bool) → (if b then pos 1 else pos 0) +ℤ (if b then negsuc 0 else pos 0) ≡ pos 0
stays true = refl
stays false = refl

may_rise : IsShownNotRaised (cover ∷ unit_not 0 ∷ []) (single 0 One) min_both → ⊥
may_rise =
    not_shown_kept 4 (cover ∷ unit_not 0 ∷ []) (single 0 One) min_both (unit 0) (unit_not 0) (not_x 0 ∷ x 1 ∷ [])
    (is_form (not_raised min_both (single 0 One)) (unit 0) (omega arith, omega arith, tt) (λ set. omega (arith, ints, stays (set 1))) refl)
    (record { rises = (omega arith, omega arith, tt); terms = refl; degree = refl }) refl refl

abbrev ObjectiveOpen : List NormalConstraint → Type 0
ObjectiveOpen live =
    All (IsShownUnder (live ++ unit_not 0 ∷ []) (single 0 One)) live × IsShownUnder (live ++ unit_not 0 ∷ []) (single 0 One) (unit 0)
    × (IsShownNotRaised (live ++ unit_not 0 ∷ []) (single 0 One) min_both → ⊥)

objective_open : ObjectiveOpen (cover ∷ [])
objective_open = (first_is_one (cover ∷ unit_not 0 ∷ []), itself (cover ∷ unit_not 0 ∷ []), may_rise)

fault : IsRedFault least_cover cover_start first_written (single 0 One) GoalOpenObjective
fault =
    let goals = subst ObjectiveOpen (sym (live_of (cover ∷ []))) objective_open in
    inr (unit 0, unit_not 0, first_admitted, omega arith, first_negated, (goals.0, goals.1, (min_both, refl, goals.2)))

pub returns-clause-raised : goal.returns-clause-raised
returns-clause-raised c = fault

pub returns-clause-not_itself : goal.returns-clause-not_itself
returns-clause-not_itself c h =
    let same : GoalOpenObjective ≡ GoalOpenSelf = one_step_fault least_cover cover_start (Red first_written (single 0 One)) GoalOpenObjective GoalOpenSelf (refl, fault) (refl, h) in
    absurd (cc)

redundant : Redundant cover_file (cover ∷ []) (single 0 One) (unit 0) (unit_not 0)
redundant = record {
  negation = first_negated;
  each_live = first_is_one (cover ∷ unit_not 0 ∷ []);
  itself = itself (cover ∷ unit_not 0 ∷ []);
  objective = tt;
}

legal : LegalRed cover_file cover_start first_written (single 0 One) (with_constraint (unit 0) cover_start)
legal = (
  unit 0,
  unit_not 0,
  first_admitted,
  subst (λ live. Redundant cover_file live (single 0 One) (unit 0) (unit_not 0)) (sym (live_of (cover ∷ []))) redundant,
  (omega arith, refl),
)

pub returns-clause-legal : goal.returns-clause-legal
returns-clause-legal c = legal

pub returns-clause-not_raised : goal.returns-clause-not_raised
returns-clause-not_raised c h = step_never cover_file cover_start (Red first_written (single 0 One)) GoalOpenObjective (with_constraint (unit 0) cover_start) (refl, h) (refl, legal)

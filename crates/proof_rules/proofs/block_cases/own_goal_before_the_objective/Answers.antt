use Rattle.std.proofs.Common.{◌≡◌, ℕ, zero, suc, ◌<◌, Bool, true, false, if◌then◌else◌, pos, negsuc, ◌+ℤ◌, List, [], ◌∷◌, Some, None, refl, sym, subst, ◌∙◌, arith}
use Rattle.std.specs.FinMap as fin
use Rattle.std.proofs.lemmas.Bool.{false≢true}
use Rattle.std.proofs.lemmas.Int.{ints}
use Rattle.std.proofs.lemmas.List.Elements.{All-head}
use Rattle.normal_form.specs.Normal.{NormalConstraint}
use Rattle.normal_form.proofs.NormalForm.{is_form}
use Rattle.propagate.specs.Cases.{x, unit, unit_not, not_x}
use Rattle.proof_steps.specs.declared.step.Step.TheVariants.{End}
use Rattle.substitution.specs.Cases.{single}
use Rattle.substitution.specs.Objective.{not_raised}
use Rattle.substitution.specs.Under.{substituted}
use Rattle.substitution.specs.declared.image.Image.TheVariants.{One}
use Rattle.proof_rules.specs.Block.{AreLiveShown}
use Rattle.proof_rules.specs.BlockCases.{rising_block, rising}
use Rattle.proof_rules.specs.Cases.{least_cover, min_both, cover}
use Rattle.proof_rules.specs.Fault.{IsStepFault}
use Rattle.proof_rules.specs.Redundant.{IsShownUnder, IsShownNotRaised}
use Rattle.proof_rules.specs.State.{constraints}
use Rattle.proof_rules.specs.declared.fault.StepFault.TheVariants.{GoalOpenSelf, GoalOpenObjective}
use Rattle.proof_rules.proofs.OneStepFault.{one_step_fault}
use Rattle.proof_rules.proofs.ShownBySearch.{not_shown_under, not_shown_kept}
use Rattle.proof_rules.proofs.SmallBlocks.{live_in, found_at, left_with}
use Rattle.proof_rules.proofs.SmallConstraints.{second_is_one}
use Rattle.proof_rules.proofs.block_cases.own_goal_before_the_objective.Goals as goal

abbrev live : List (ℕ × NormalConstraint)
live = (1, cover) ∷ (2, unit 0) ∷ []

abbrev from : List NormalConstraint
from = cover ∷ unit 0 ∷ []

cover_shown : (ns : List NormalConstraint) → IsShownUnder ns (single 1 One) cover
cover_shown ns = All-head (IsShownUnder ns (single 1 One)) cover [] (second_is_one ns)

each_shown : (itself objective : Bool) (id : ℕ) (e : NormalConstraint) → id < 2 → fin.get (rising itself objective).live id ≡ Some e
    → IsShownUnder (constraints (rising itself objective)) (single 1 One) e
each_shown itself objective zero e less is = let same : None ≡ Some e = sym (found_at live 0) ∙ is in absurd (cc)
each_shown itself objective (suc zero) e less is =
    let same : Some cover ≡ Some e = sym (found_at live 1) ∙ is in
    let one : cover ≡ e = cc in
    subst (IsShownUnder (constraints (rising itself objective)) (single 1 One)) one (cover_shown (constraints (rising itself objective)))
each_shown itself objective (suc (suc id)) e less is = absurd (omega (arith, less))

live_shown : (itself objective : Bool) → AreLiveShown (rising itself objective) (rising_block itself objective)
live_shown itself objective id e unopened is = each_shown itself objective id e unopened.0 is

own_open : IsShownUnder (constraints (rising false false)) (single 1 One) (unit_not 0) → ⊥
own_open =
    subst (λ ns. IsShownUnder ns (single 1 One) (unit_not 0) → ⊥) (sym (live_in live))
    (not_shown_under 3 from (single 1 One) (unit_not 0) (unit_not 0) (unit 0) (x 0 ∷ [])
    (is_form (substituted (unit_not 0) (single 1 One)) (unit_not 0) (omega arith, omega arith, tt) (λ set. omega (arith, ints)) refl)
    (record { rises = (omega arith, omega arith, tt); terms = refl; degree = refl }) refl refl)

itself : IsStepFault least_cover (rising false false) End GoalOpenSelf
itself = (rising_block false false, refl, (omega arith, (live_shown false false, refl, own_open)))

pub returns-clause-itself : goal.returns-clause-itself
returns-clause-itself c = itself

pub returns-clause-not_objective : goal.returns-clause-not_objective
returns-clause-not_objective c h =
    let same : GoalOpenSelf ≡ GoalOpenObjective = one_step_fault least_cover (rising false false) End GoalOpenSelf GoalOpenObjective itself h in
    absurd (cc)

-- a variable that stays adds nothing to a set, whether it is in it or not
stays : (b : Bool) → (if b then pos 1 else pos 0) +ℤ (if b then negsuc 0 else pos 0) ≡ pos 0
stays true = refl
stays false = refl

-- that the objective does not rise is `1 x1 >= 1`
may_rise : IsShownNotRaised (constraints (rising true false)) (single 1 One) min_both → ⊥
may_rise =
    subst (λ ns. IsShownNotRaised ns (single 1 One) min_both → ⊥) (sym (live_in live))
    (not_shown_kept 4 from (single 1 One) min_both (unit 1) (unit_not 1) (x 0 ∷ not_x 1 ∷ [])
    (is_form (not_raised min_both (single 1 One)) (unit 1) (omega arith, omega arith, tt) (λ set. omega (arith, ints, stays (set 0))) refl)
    (record { rises = (omega arith, omega arith, tt); terms = refl; degree = refl }) refl refl)

pub returns-clause-objective : goal.returns-clause-objective
returns-clause-objective c = (
  rising_block true false,
  refl,
  (omega arith, (live_shown true false, λ closed. absurd (false≢true (sym closed)), refl, (min_both, refl, may_rise))),
)

pub returns-clause-legal : goal.returns-clause-legal
returns-clause-legal c = (
  rising_block true true,
  refl,
  record {
    room = omega arith;
    each_live = live_shown true true;
    itself = λ closed. absurd (false≢true (sym closed));
    objective = λ closed. absurd (false≢true (sym closed));
    becomes = left_with 2 3 live (Some (rising_block true true)) (unit_not 0) refl;
  },
)

use Rattle.std.proofs.Common.{List, [], ◌∷◌, ◌++◌, None, inl, inr, refl, sym, subst, arith}
use Rattle.normal_form.specs.Normal.{NormalConstraint}
use Rattle.normal_form.proofs.NormalForm.{is_form}
use Rattle.propagate.specs.Cases.{x, not_x, unit, unit_not}
use Rattle.substitution.specs.Cases.{single}
use Rattle.substitution.specs.Under.{substituted}
use Rattle.substitution.specs.declared.image.Image.TheVariants.{Zero}
use Rattle.proof_rules.specs.Cases.{cover_file, cover, cover_start}
use Rattle.proof_rules.specs.Fault.{IsGoalFault}
use Rattle.proof_rules.specs.Redundant.{IsShownUnder}
use Rattle.proof_rules.specs.declared.fault.StepFault.TheVariants.{GoalOpen}
use Rattle.proof_rules.proofs.ShownBySearch.{not_shown_under}
use Rattle.proof_rules.proofs.SmallStates.{found_in, live_of, none_below_one, none_left}
use Rattle.proof_rules.proofs.SmallConstraints.{first_admitted, not_first_admitted, not_first_negated}
use Rattle.proof_rules.proofs.redundance_cases.no_id_left_to_strengthen.Goals as goal

abbrev from : List NormalConstraint
from = cover ∷ unit 0 ∷ []

cover_open : IsShownUnder from (single 0 Zero) cover → ⊥
cover_open =
    not_shown_under 4 from (single 0 Zero) cover (unit 1) (unit_not 1) (x 0 ∷ not_x 1 ∷ [])
    (is_form (substituted cover (single 0 Zero)) (unit 1) (omega arith, omega arith, tt) (λ set. refl) refl)
    (record { rises = (omega arith, omega arith, tt); terms = refl; degree = refl }) refl refl

pub returns-clause-open : goal.returns-clause-open
returns-clause-open c = inr (
  unit_not 0,
  unit 0,
  not_first_admitted,
  omega arith,
  not_first_negated,
  subst (λ ns. IsGoalFault cover_file cover_start (ns ++ unit 0 ∷ []) (single 0 Zero) (unit_not 0) (GoalOpen 1)) (sym (live_of (cover ∷ [])))
      (cover, found_in (cover ∷ []) 1, cover_open, none_below_one (cover ∷ []) (IsShownUnder from (single 0 Zero)) refl),
)

pub returns-clause-full : goal.returns-clause-full
returns-clause-full c = inl ((unit_not 0, not_first_admitted), none_left None)

pub returns-clause-shown : goal.returns-clause-shown
returns-clause-shown c = inl ((unit 0, first_admitted), none_left None)

use Rattle.std.proofs.Common.{◌≡◌, [], ◌∷◌, refl, subst, arith}
use Rattle.normal_form.proofs.NormalForm.{is_form, one_form}
use Rattle.propagate.specs.Cases.{not_x, unit, unit_not}
use Rattle.substitution.specs.Cases.{single, min_first}
use Rattle.substitution.specs.Objective.{not_raised, IsObjectiveGoal}
use Rattle.substitution.specs.declared.image.Image.TheVariants.{One}
use Rattle.proof_rules.specs.Shown.{IsShown}
use Rattle.proof_rules.proofs.ShownBySearch.{not_shown}
use Rattle.proof_rules.proofs.cases.objective_goal_open.Goals as goal

target : IsObjectiveGoal min_first (single 1 One) (unit 1)
target = is_form (not_raised min_first (single 1 One)) (unit 1) (omega arith, omega arith, tt) (λ set. refl) refl

pub returns : goal.returns
returns c (r, form, shown) =
    let same : r ≡ unit 1 = one_form (not_raised min_first (single 1 One)) r (unit 1) form target in
    not_shown 3 (unit_not 1 ∷ []) (unit 1) (unit_not 1) (not_x 1 ∷ []) (record { rises = (omega arith, omega arith, tt); terms = refl; degree = refl }) refl refl
    (subst (IsShown (unit_not 1 ∷ [])) same shown)

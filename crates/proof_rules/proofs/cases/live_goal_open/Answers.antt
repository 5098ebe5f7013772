use Rattle.std.proofs.Common.{◌≡◌, [], ◌∷◌, refl, subst, arith}
use Rattle.normal_form.proofs.NormalForm.{is_form, one_form}
use Rattle.propagate.specs.Cases.{x, not_x, unit, unit_not}
use Rattle.substitution.specs.Cases.{single}
use Rattle.substitution.specs.Under.{substituted, IsUnder}
use Rattle.substitution.specs.declared.image.Image.TheVariants.{Zero}
use Rattle.proof_rules.specs.Cases.{first_or_second}
use Rattle.proof_rules.specs.Shown.{IsShown}
use Rattle.proof_rules.proofs.ShownBySearch.{not_shown}
use Rattle.proof_rules.proofs.cases.live_goal_open.Goals as goal

under : IsUnder first_or_second (single 1 Zero) (unit 2)
under = is_form (substituted first_or_second (single 1 Zero)) (unit 2) (omega arith, omega arith, tt) (λ set. refl) refl

pub returns : goal.returns
returns c (r, form, shown) =
    let same : r ≡ unit 2 = one_form (substituted first_or_second (single 1 Zero)) r (unit 2) form under in
    not_shown 4 (first_or_second ∷ unit 1 ∷ []) (unit 2) (unit_not 2) (x 1 ∷ not_x 2 ∷ []) (record { rises = (omega arith, omega arith, tt); terms = refl; degree = refl }) refl refl
    (subst (IsShown (first_or_second ∷ unit 1 ∷ [])) same shown)

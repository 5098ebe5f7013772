use Rattle.std.proofs.Common.{◌≡◌, List, [], ◌∷◌, refl, subst, arith}
use Rattle.std.proofs.lemmas.Int.{ints}
use Rattle.normal_form.specs.Normal.{NormalConstraint}
use Rattle.normal_form.specs.Cases.{plain, negated, normal}
use Rattle.normal_form.proofs.NormalForm.{is_form, one_form}
use Rattle.propagate.specs.Cases.{not_x, unit_not}
use Rattle.substitution.specs.Cases.{single, to_plain, three_of_four_false}
use Rattle.substitution.specs.Under.{substituted, IsUnder}
use Rattle.proof_rules.specs.Shown.{IsShown}
use Rattle.proof_rules.proofs.ShownBySearch.{not_shown}
use Rattle.proof_rules.proofs.cases.improving_goal_open.Goals as goal

abbrev moved : NormalConstraint
moved = normal (negated 1 2 ∷ negated 1 3 ∷ negated 1 4 ∷ negated 1 5 ∷ []) 3

abbrev from : List NormalConstraint
from = normal (plain 1 1 ∷ negated 1 5 ∷ []) 1 ∷ three_of_four_false ∷ unit_not 6 ∷ []

under : IsUnder three_of_four_false (single 1 (to_plain 5)) moved
under =
    is_form (substituted three_of_four_false (single 1 (to_plain 5))) moved
    (omega arith, omega arith, (omega arith, omega arith, (omega arith, omega arith, (omega arith, omega arith, tt)))) (λ set. omega (arith, ints)) refl

pub returns : goal.returns
returns c (r, form, shown) =
    let same : r ≡ moved = one_form (substituted three_of_four_false (single 1 (to_plain 5))) r moved form under in
    not_shown 7 from moved (normal (plain 1 2 ∷ plain 1 3 ∷ plain 1 4 ∷ plain 1 5 ∷ []) 2) (not_x 6 ∷ [])
    (record { rises = (omega arith, omega arith, (omega arith, omega arith, (omega arith, omega arith, (omega arith, omega arith, tt)))); terms = refl; degree = refl })
    refl refl (subst (IsShown from) same shown)

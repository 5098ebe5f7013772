use Rattle.std.proofs.Common.{◌≡◌, [], ◌∷◌, Bool, true, false, if◌then◌else◌, pos, negsuc, ◌+ℤ◌, refl, arith}
use Rattle.std.proofs.lemmas.Int.{ints}
use Rattle.normal_form.specs.Cases.{plain, negated, normal}
use Rattle.normal_form.proofs.NormalForm.{is_form}
use Rattle.substitution.specs.Objective.{not_raised}
use Rattle.proof_rules.specs.Cases.{min_four, fifth_for_first}
use Rattle.proof_rules.proofs.cases.objective_goal_of_a_move.Goals as goal

-- a variable that stays adds nothing to a set, whether it is in it or not
stays : (b : Bool) → (if b then pos 1 else pos 0) +ℤ (if b then negsuc 0 else pos 0) ≡ pos 0
stays true = refl
stays false = refl

pub returns : goal.returns
returns c =
    is_form (not_raised min_four fifth_for_first) (normal (plain 1 1 ∷ negated 1 5 ∷ []) 1) (omega arith, omega arith, (omega arith, omega arith, tt))
    (λ set. omega (arith, ints, stays (set 2), stays (set 3), stays (set 4))) refl

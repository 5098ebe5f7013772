use Rattle.std.proofs.Common.{◌<ℤ◌, ◌≤ℤ◌, pos, [], ◌∷◌, None, refl, arith}
use Rattle.std.proofs.lemmas.Int.{ints}
use Rattle.std.proofs.lemmas.List.Elements.{All-nil, All-cons}
use Rattle.normal_form.specs.NormalOf.{IsNormalOf}
use Rattle.normal_form.proofs.NormalForm.{is_form}
use Rattle.proof_rules.specs.Cases.{cover_state, least_cover, min_both, both, second_alone, below_two}
use Rattle.proof_rules.specs.Legal.{worth_of}
use Rattle.proof_rules.specs.Solution.{at_most}
use Rattle.proof_rules.proofs.SmallStates.{both_logged}
use Rattle.proof_rules.proofs.solution_cases.first_improving_solution.Goals as goal

form : IsNormalOf (at_most min_both (pos 1)) below_two
form = is_form (at_most min_both (pos 1)) below_two (omega arith, omega arith, (omega arith, omega arith, tt)) (λ set. omega (arith, ints)) refl

pub returns-clause-improves : goal.returns-clause-improves
returns-clause-improves c = (
  min_both,
  both,
  below_two,
  record { minimises = refl; logs = both_logged (cover_state None (second_alone ∷ [])); better = tt; form = form; room = omega arith },
  refl,
)

pub returns-clause-best : goal.returns-clause-best
returns-clause-best c = (
  [],
  both ∷ [],
  refl,
  All-nil (λ h. worth_of least_cover second_alone <ℤ worth_of least_cover h),
  All-cons (λ h. worth_of least_cover second_alone ≤ℤ worth_of least_cover h) both [] (omega (arith, ints)) (All-nil (λ h. worth_of least_cover second_alone ≤ℤ worth_of least_cover h)),
)

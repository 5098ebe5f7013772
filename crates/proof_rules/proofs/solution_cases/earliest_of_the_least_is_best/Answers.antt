use Rattle.std.proofs.Common.{◌≡◌, ◌<ℤ◌, ◌≤ℤ◌, Bool, List, [], ◌∷◌, Some, refl, arith}
use Rattle.std.proofs.lemmas.Int.{ints}
use Rattle.std.proofs.lemmas.List.Elements.{All-nil, All-cons}
use Rattle.proof_rules.specs.Cases.{least_cover, both, first_alone, second_alone}
use Rattle.proof_rules.specs.Justified.{IsBest}
use Rattle.proof_rules.specs.Legal.{worth_of}
use Rattle.proof_rules.proofs.OneState.{one_best}
use Rattle.proof_rules.proofs.solution_cases.earliest_of_the_least_is_best.Goals as goal

abbrev logged : List (List Bool)
logged = both ∷ second_alone ∷ first_alone ∷ []

least : IsBest least_cover logged (Some second_alone)
least = (
  both ∷ [],
  first_alone ∷ [],
  refl,
  All-cons (λ h. worth_of least_cover second_alone <ℤ worth_of least_cover h) both [] (omega (arith, ints)) (All-nil (λ h. worth_of least_cover second_alone <ℤ worth_of least_cover h)),
  All-cons (λ h. worth_of least_cover second_alone ≤ℤ worth_of least_cover h) first_alone [] (omega (arith, ints)) (All-nil (λ h. worth_of least_cover second_alone ≤ℤ worth_of least_cover h)),
)

pub returns-clause-least : goal.returns-clause-least
returns-clause-least c = least

pub returns-clause-not_the_later : goal.returns-clause-not_the_later
returns-clause-not_the_later c h = let same : Some second_alone ≡ Some first_alone = one_best least_cover logged (Some second_alone) (Some first_alone) least h in absurd (cc)

pub returns-clause-not_the_first : goal.returns-clause-not_the_first
returns-clause-not_the_first c h = let same : Some second_alone ≡ Some both = one_best least_cover logged (Some second_alone) (Some both) least h in absurd (cc)

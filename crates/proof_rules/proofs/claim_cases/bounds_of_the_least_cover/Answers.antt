use Rattle.std.proofs.Common.{◌≤ℤ◌, pos, [], refl, arith, rules}
use Rattle.std.proofs.lemmas.Int.{ints}
use Rattle.std.proofs.lemmas.List.Elements.{All-head}
use Rattle.linear.specs.Sum.{Meets}
use Rattle.linear.specs.Valuation.{valuation_of}
use Rattle.proof_rules.specs.Cases.{cover_written, second_alone}
use Rattle.proof_rules.proofs.SmallStates.{second_satisfies}
use Rattle.proof_rules.proofs.claim_cases.bounds_of_the_least_cover.Goals as goal

pub returns-clause-exact : goal.returns-clause-exact
returns-clause-exact c = record {
  solution = record { long = refl; satisfies = second_satisfies };
  concludes = (λ a satisfies. All-head (Meets a) cover_written [] satisfies, search rules);
}

pub returns-clause-too_great : goal.returns-clause-too_great
returns-clause-too_great c h =
    let two : pos 2 ≤ℤ pos 1 = h.concludes.0 (valuation_of second_alone) second_satisfies in
    absurd (omega (two, arith, ints))

pub returns-clause-too_great_of_none : goal.returns-clause-too_great_of_none
returns-clause-too_great_of_none c h =
    let two : pos 2 ≤ℤ pos 1 = h.concludes.0 (valuation_of second_alone) second_satisfies in
    absurd (omega (two, arith, ints))

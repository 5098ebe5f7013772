use Rattle.std.proofs.Common.{◌≤ℤ◌, pos, false, [], ◌∷◌, arith}
use Rattle.std.proofs.lemmas.Int.{ints}
use Rattle.std.proofs.lemmas.List.Elements.{All-head}
use Rattle.linear.specs.Sum.{Meets}
use Rattle.linear.specs.Valuation.{valuation_of}
use Rattle.proof_rules.specs.Cases.{cover_written}
use Rattle.proof_rules.proofs.claim_cases.assignments_of_the_cover.Goals as goal

pub returns-clause-falsifies : goal.returns-clause-falsifies
returns-clause-falsifies c h =
    let one : pos 1 ≤ℤ pos 0 = All-head (Meets (valuation_of (false ∷ false ∷ []))) cover_written [] h.solution.satisfies in
    absurd (omega (one, arith, ints))

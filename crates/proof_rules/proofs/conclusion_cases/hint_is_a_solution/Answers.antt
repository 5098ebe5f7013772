use Rattle.std.proofs.Common.{◌≤ℤ◌, pos, [], ◌∷◌, None, refl, arith}
use Rattle.std.proofs.lemmas.Int.{ints}
use Rattle.propagate.proofs.AnyOf.{any_here}
use Rattle.proof_rules.specs.Cases.{least_cover, min_both, both, cover_state}
use Rattle.proof_rules.specs.Legal.{worth_of}
use Rattle.proof_rules.proofs.SmallStates.{both_logged, alone_is_best, zero_is_bound}
use Rattle.proof_rules.proofs.conclusion_cases.hint_is_a_solution.Goals as goal

pub returns : goal.returns
returns c = (
  refl,
  (
    cover_state None (both ∷ []),
    (both, both_logged (cover_state None []), refl),
    (min_both, refl, zero_is_bound (cover_state None (both ∷ [])) tt, any_here (λ g. worth_of least_cover g ≤ℤ pos 5) both [] (omega (arith, ints))),
    alone_is_best least_cover both,
  ),
)

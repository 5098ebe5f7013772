use Rattle.std.proofs.Common.{◌≤ℤ◌, pos, [], ◌∷◌, Some, refl, arith}
use Rattle.std.proofs.lemmas.Int.{ints}
use Rattle.propagate.proofs.AnyOf.{any_here}
use Rattle.proof_rules.specs.Cases.{least_cover, min_both, second_alone, cover_state}
use Rattle.proof_rules.specs.Legal.{worth_of}
use Rattle.proof_rules.proofs.SmallStates.{alone_is_best, cover_is_bound}
use Rattle.proof_rules.proofs.conclusion_cases.bound_at_the_best.Goals as goal

pub returns : goal.returns
returns c = (
  refl,
  (
    cover_state (Some (pos 1)) (second_alone ∷ []),
    refl,
    (
      min_both,
      refl,
      cover_is_bound (Some (pos 1)) (second_alone ∷ []) (omega (arith, ints)),
      any_here (λ g. worth_of least_cover g ≤ℤ pos 1) second_alone [] (omega (arith, ints)),
    ),
    alone_is_best least_cover second_alone,
  ),
)

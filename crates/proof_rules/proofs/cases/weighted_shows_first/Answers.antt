use Rattle.std.proofs.Common.{[], ◌∷◌, refl, arith}
use Rattle.propagate.specs.Cases.{x, not_x, unit, unit_not, weighted}
use Rattle.proof_rules.proofs.ShownBySearch.{shown_by_search, not_shown}
use Rattle.proof_rules.proofs.cases.weighted_shows_first.Goals as goal

pub returns-clause-first : goal.returns-clause-first
returns-clause-first c = shown_by_search 4 (weighted ∷ []) (unit 1) (unit_not 1) (record { rises = (omega arith, omega arith, tt); terms = refl; degree = refl }) refl

pub returns-clause-second : goal.returns-clause-second
returns-clause-second c =
    not_shown 4 (weighted ∷ []) (unit 2) (unit_not 2) (x 1 ∷ not_x 2 ∷ x 3 ∷ []) (record { rises = (omega arith, omega arith, tt); terms = refl; degree = refl }) refl refl

-- By the slow search.
use Rattle.std.proofs.Common.{refl, [], ◌∷◌}
use Rattle.propagate.specs.Cases.{x, not_x, unit_not, weighted}
use Rattle.propagate.proofs.SearchIsRight.{conflict_met, closure_met, no_conflict_met}
use Rattle.propagate.proofs.cases.weighted_needs_first.Goals as goal

pub returns-clause-first : goal.returns-clause-first
returns-clause-first c = conflict_met 4 (weighted ∷ unit_not 1 ∷ []) [] refl

pub returns-clause-second : goal.returns-clause-second
returns-clause-second c = no_conflict_met 4 (weighted ∷ unit_not 2 ∷ []) [] (x 1 ∷ not_x 2 ∷ x 3 ∷ []) refl

pub returns-clause-others : goal.returns-clause-others
returns-clause-others c = closure_met 4 (weighted ∷ unit_not 2 ∷ []) [] (x 1 ∷ not_x 2 ∷ x 3 ∷ []) refl

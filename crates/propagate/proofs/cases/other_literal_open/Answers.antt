-- By the slow search.
use Rattle.std.proofs.Common.{refl, [], ◌∷◌}
use Rattle.propagate.specs.Cases.{x, not_x, unit, unit_not, one_of_two}
use Rattle.propagate.proofs.SearchIsRight.{no_conflict_met}
use Rattle.propagate.proofs.cases.other_literal_open.Goals as goal

pub returns : goal.returns
returns c = no_conflict_met 3 (one_of_two ∷ unit 1 ∷ unit_not 2 ∷ []) [] (x 1 ∷ not_x 2 ∷ []) refl

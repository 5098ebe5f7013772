-- By the slow search.
use Rattle.std.proofs.Common.{refl, [], ◌∷◌}
use Rattle.propagate.specs.Cases.{not_x, improving_moved}
use Rattle.propagate.proofs.SearchIsRight.{no_conflict_met}
use Rattle.propagate.proofs.cases.moved_bound_open.Goals as goal

pub returns : goal.returns
returns c = no_conflict_met 3 improving_moved [] (not_x 6 ∷ []) refl

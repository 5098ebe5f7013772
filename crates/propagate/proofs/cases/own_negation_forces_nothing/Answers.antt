-- By the slow search.
use Rattle.std.proofs.Common.{refl, [], ◌∷◌}
use Rattle.propagate.specs.Cases.{two_of_three, two_of_three_negated}
use Rattle.propagate.proofs.SearchIsRight.{no_conflict_met}
use Rattle.propagate.proofs.cases.own_negation_forces_nothing.Goals as goal

pub returns-clause-refuted : goal.returns-clause-refuted
returns-clause-refuted c = no_conflict_met 1 (two_of_three ∷ two_of_three_negated ∷ []) [] [] refl

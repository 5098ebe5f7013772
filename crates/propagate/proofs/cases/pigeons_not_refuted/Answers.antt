-- By the slow search.
use Rattle.std.proofs.Common.{refl, [], ◌∷◌, ◌++◌}
use Rattle.normal_form.specs.Cases.{normal}
use Rattle.propagate.specs.Cases.{pigeons}
use Rattle.propagate.proofs.SearchIsRight.{no_conflict_met}
use Rattle.propagate.proofs.cases.pigeons_not_refuted.Goals as goal

pub returns-clause-refuted : goal.returns-clause-refuted
returns-clause-refuted c = no_conflict_met 1 (pigeons ++ normal [] 0 ∷ []) [] [] refl

-- By the slow search.
use Rattle.std.proofs.Common.{refl, [], ◌∷◌, inl}
use Rattle.propagate.specs.Cases.{x, not_x, one_of_two}
use Rattle.propagate.proofs.SearchIsRight.{conflict_met, closure_met}
use Rattle.propagate.proofs.cases.assigned_continued.Goals as goal

pub returns-clause-false_given : goal.returns-clause-false_given
returns-clause-false_given c = closure_met 3 (one_of_two ∷ []) (not_x 1 ∷ []) (not_x 1 ∷ x 2 ∷ []) refl

pub returns-clause-true_given : goal.returns-clause-true_given
returns-clause-true_given c = closure_met 3 (one_of_two ∷ []) (x 1 ∷ []) (x 1 ∷ []) refl

pub returns-clause-both_given : goal.returns-clause-both_given
returns-clause-both_given c = inl (x 1, refl, refl)

pub returns-clause-neither_given : goal.returns-clause-neither_given
returns-clause-neither_given c = conflict_met 3 (one_of_two ∷ []) (not_x 1 ∷ not_x 2 ∷ []) refl

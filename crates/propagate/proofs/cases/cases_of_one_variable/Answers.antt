-- By the slow search.
use Rattle.std.proofs.Common.{refl, [], ◌∷◌}
use Rattle.normal_form.specs.Cases.{plain, negated, normal}
use Rattle.propagate.specs.Cases.{unit_not, one_of_two}
use Rattle.propagate.proofs.SearchIsRight.{conflict_met}
use Rattle.propagate.proofs.cases.cases_of_one_variable.Goals as goal

pub returns : goal.returns
returns c = conflict_met 3 (one_of_two ∷ normal (negated 1 1 ∷ plain 1 2 ∷ []) 1 ∷ unit_not 2 ∷ []) [] refl

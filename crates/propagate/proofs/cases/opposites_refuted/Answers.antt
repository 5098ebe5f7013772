-- By the slow search.
use Rattle.std.proofs.Common.{refl, [], ◌∷◌}
use Rattle.normal_form.specs.Cases.{plain, negated, normal}
use Rattle.propagate.proofs.SearchIsRight.{conflict_met}
use Rattle.propagate.proofs.cases.opposites_refuted.Goals as goal

pub returns : goal.returns
returns c = conflict_met 3 (normal (negated 1 1 ∷ plain 1 2 ∷ []) 2 ∷ normal (plain 1 1 ∷ negated 1 2 ∷ []) 2 ∷ []) [] refl

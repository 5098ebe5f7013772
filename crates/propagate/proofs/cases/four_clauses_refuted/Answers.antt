-- The third clause forces x1, then the second x2, then the first x3, and the fourth is falsified.
use Rattle.std.proofs.Common.{refl, [], ◌∷◌}
use Rattle.normal_form.specs.Cases.{plain, negated, normal}
use Rattle.propagate.specs.Cases.{x, unit, four_clauses}
use Rattle.propagate.proofs.SearchIsRight.{conflict_met, test_forced}
use Rattle.std.proofs.Common.{lit<}
use Rattle.propagate.proofs.cases.four_clauses_refuted.Goals as goal

pub returns-clause-chain : goal.returns-clause-chain
returns-clause-chain c =
    let second = normal (negated 1 1 ∷ plain 1 2 ∷ []) 1 in
    let first = normal (negated 1 2 ∷ plain 1 3 ∷ []) 1 in (
      (2, unit 1, lit< tt, refl, test_forced [] (unit 1) (x 1) refl),
      (
        (1, second, lit< tt, refl, test_forced (x 1 ∷ []) second (x 2) refl),
        ((0, first, lit< tt, refl, test_forced (x 1 ∷ x 2 ∷ []) first (x 3) refl), tt),
      ),
    )

pub returns-clause-refuted : goal.returns-clause-refuted
returns-clause-refuted c = conflict_met 4 four_clauses [] refl

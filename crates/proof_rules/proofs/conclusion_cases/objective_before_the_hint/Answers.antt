use Rattle.std.proofs.Common.{◌≡◌, inl, Some, None, refl}
use Rattle.propagate.specs.Cases.{x}
use Rattle.proof_rules.specs.Cases.{min_both}
use Rattle.proof_rules.proofs.conclusion_cases.objective_before_the_hint.Goals as goal

pub returns-clause-objective : goal.returns-clause-objective
returns-clause-objective c = (refl, refl)

pub returns-clause-not_the_hint : goal.returns-clause-not_the_hint
returns-clause-not_the_hint c (outside, (objective, is, h)) = let same : None ≡ Some objective = is in absurd (cc)

pub returns-clause-hint : goal.returns-clause-hint
returns-clause-hint c = (refl, (min_both, refl, inl (inl (λ consistent. consistent (x 0, refl, refl)))))

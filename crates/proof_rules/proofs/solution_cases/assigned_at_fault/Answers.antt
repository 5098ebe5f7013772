use Rattle.std.proofs.Common.{◌≡◌, ◌≢◌, inl, Some, None, refl}
use Rattle.propagate.specs.Cases.{x}
use Rattle.proof_rules.specs.Cases.{least_cover, min_both}
use Rattle.proof_rules.proofs.SmallStates.{first_leaves_open, neither_breaks}
use Rattle.proof_rules.proofs.solution_cases.assigned_at_fault.Goals as goal

minimises : least_cover.objective ≢ None
minimises none = let same : Some min_both ≡ None = none in absurd (cc)

pub returns-clause-open : goal.returns-clause-open
returns-clause-open c = first_leaves_open

pub returns-clause-contradictory : goal.returns-clause-contradictory
returns-clause-contradictory c = inl (λ consistent. consistent (x 0, refl, refl))

pub returns-clause-breaks : goal.returns-clause-breaks
returns-clause-breaks c = neither_breaks

pub returns-clause-improving_open : goal.returns-clause-improving_open
returns-clause-improving_open c = (minimises, first_leaves_open)

pub returns-clause-improving_contradictory : goal.returns-clause-improving_contradictory
returns-clause-improving_contradictory c = (minimises, inl (λ consistent. consistent (x 0, refl, refl)))

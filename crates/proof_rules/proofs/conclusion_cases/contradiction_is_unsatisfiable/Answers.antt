use Rattle.std.proofs.Common.{refl}
use Rattle.proof_rules.specs.Cases.{min_both, contradicting_state}
use Rattle.proof_rules.proofs.SmallStates.{exhausted}
use Rattle.proof_rules.proofs.conclusion_cases.contradiction_is_unsatisfiable.Goals as goal

pub returns-clause-unsatisfiable : goal.returns-clause-unsatisfiable
returns-clause-unsatisfiable c = (refl, (contradicting_state, refl, exhausted, refl))

pub returns-clause-infinite_bounds : goal.returns-clause-infinite_bounds
returns-clause-infinite_bounds c = (refl, (contradicting_state, refl, (min_both, refl, exhausted, tt), refl))

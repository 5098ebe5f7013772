use Rattle.linear.specs.Valuation.{valuation_of}
use Rattle.proof_rules.specs.Cases.{second_alone}
use Rattle.proof_rules.proofs.SmallStates.{second_satisfies}
use Rattle.proof_rules.proofs.claim_cases.infinite_bounds_of_the_least_cover.Goals as goal

pub returns-clause-unsatisfiable : goal.returns-clause-unsatisfiable
returns-clause-unsatisfiable c h = h.concludes.0 (valuation_of second_alone) second_satisfies

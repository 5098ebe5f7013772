use Rattle.std.proofs.Common.{refl}
use Rattle.proof_rules.specs.Cases.{second_alone}
use Rattle.proof_rules.proofs.SmallStates.{second_satisfies, second_completes}
use Rattle.proof_rules.proofs.solution_cases.assigned_is_completed.Goals as goal

pub returns-clause-logged : goal.returns-clause-logged
returns-clause-logged c = (second_alone, record { completes = second_completes; satisfies = second_satisfies }, refl)

pub returns-clause-least_stays : goal.returns-clause-least_stays
returns-clause-least_stays c = (second_alone, record { completes = second_completes; satisfies = second_satisfies }, refl)

use Rattle.proof_rules.proofs.BlockSteps.{live_opens, live_opens_from_end, live_closes, live_ends}
use Rattle.proof_rules.proofs.block_cases.goal_of_a_live_constraint.Goals as goal

pub returns-clause-opens : goal.returns-clause-opens
returns-clause-opens c = live_opens

pub returns-clause-from_the_end : goal.returns-clause-from_the_end
returns-clause-from_the_end c = live_opens_from_end

pub returns-clause-closes : goal.returns-clause-closes
returns-clause-closes c = live_closes

pub returns-clause-ends : goal.returns-clause-ends
returns-clause-ends c = live_ends

use Rattle.proof_rules.proofs.BlockSteps.{begins, own_opens, own_closes, own_ends}
use Rattle.proof_rules.proofs.block_cases.goal_and_block_closed.Goals as goal

pub returns-clause-begins : goal.returns-clause-begins
returns-clause-begins c = begins

pub returns-clause-opens : goal.returns-clause-opens
returns-clause-opens c = own_opens

pub returns-clause-closes : goal.returns-clause-closes
returns-clause-closes c = own_closes

pub returns-clause-ends : goal.returns-clause-ends
returns-clause-ends c = own_ends

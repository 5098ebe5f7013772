use Rattle.proof_rules.proofs.Blocks as blocks
use Rattle.proof_rules.proofs.laws.goal_preserves.Goals as goal

pub returns-clause-answer : goal.returns-clause-answer
returns-clause-answer _ = blocks.goal_preserves

pub returns-clause-normal : goal.returns-clause-normal
returns-clause-normal _ = blocks.goal_normal

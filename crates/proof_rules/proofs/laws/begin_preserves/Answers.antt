use Rattle.proof_rules.proofs.Blocks as blocks
use Rattle.proof_rules.proofs.laws.begin_preserves.Goals as goal

pub returns-clause-answer : goal.returns-clause-answer
returns-clause-answer _ = blocks.begin_preserves

pub returns-clause-normal : goal.returns-clause-normal
returns-clause-normal _ = blocks.begin_normal

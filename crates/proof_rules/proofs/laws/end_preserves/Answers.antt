use Rattle.proof_rules.proofs.Blocks as blocks
use Rattle.proof_rules.proofs.laws.end_preserves.Goals as goal

pub returns-clause-answer : goal.returns-clause-answer
returns-clause-answer _ = blocks.end_preserves

pub returns-clause-normal : goal.returns-clause-normal
returns-clause-normal _ = blocks.end_normal

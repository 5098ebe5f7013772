use Rattle.proof_rules.proofs.Preserving as preserving
use Rattle.proof_rules.proofs.laws.soli_preserves.Goals as goal

pub returns-clause-answer : goal.returns-clause-answer
returns-clause-answer _ = preserving.soli_preserves

pub returns-clause-normal : goal.returns-clause-normal
returns-clause-normal _ = preserving.soli_normal

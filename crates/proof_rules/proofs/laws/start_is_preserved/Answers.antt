use Rattle.proof_rules.proofs.FileForms.{start_preserved, start_normal}
use Rattle.proof_rules.proofs.laws.start_is_preserved.Goals as goal

pub returns-clause-answer : goal.returns-clause-answer
returns-clause-answer _ = start_preserved

pub returns-clause-normal : goal.returns-clause-normal
returns-clause-normal _ = start_normal

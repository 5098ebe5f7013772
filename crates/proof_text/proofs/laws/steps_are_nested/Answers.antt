use Rattle.proof_text.proofs.Placed.{nested, proof_nested}
use Rattle.proof_text.proofs.laws.steps_are_nested.Goals as goal

pub returns-clause-lines : goal.returns-clause-lines
returns-clause-lines c = nested

pub returns-clause-proof : goal.returns-clause-proof
returns-clause-proof c = proof_nested

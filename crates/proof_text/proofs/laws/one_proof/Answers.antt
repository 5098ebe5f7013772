use Rattle.proof_text.proofs.OneReading.{one_proof}
use Rattle.proof_text.proofs.laws.one_proof.Goals as goal

pub returns : goal.returns
returns c = one_proof

use Rattle.checker.proofs.OneProof.{one_proof_of}
use Rattle.checker.proofs.laws.one_proof.Goals as goal

pub returns : goal.returns
returns c p proof a b x y = one_proof_of p proof a b x y

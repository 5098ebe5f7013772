use Rattle.std.proofs.Common.{refl}
use Rattle.std.specs.Fmt.{digits}
use Rattle.proof_write.proofs.cases.written_proof.Goals as goal

pub returns : goal.returns
unfolding digits
returns c = refl

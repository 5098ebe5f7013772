use Rattle.proof_text.proofs.OneReading.{one_line}
use Rattle.proof_text.proofs.laws.one_line.Goals as goal

pub returns : goal.returns
returns c = one_line

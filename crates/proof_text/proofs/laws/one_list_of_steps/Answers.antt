use Rattle.proof_text.proofs.OneReading.{one_list_of_steps}
use Rattle.proof_text.proofs.laws.one_list_of_steps.Goals as goal

pub returns : goal.returns
returns c = one_list_of_steps

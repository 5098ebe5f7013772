use Rattle.proof_text.proofs.Placed.{placed}
use Rattle.proof_text.proofs.laws.lines_stand_in_their_places.Goals as goal

pub returns : goal.returns
returns c = placed

use Rattle.checker.proofs.Streaming.{judged_as_text}
use Rattle.checker.proofs.laws.pieces_are_judged_as_their_text.Goals as goal

pub returns : goal.returns
returns c opb proof before after none given v judged = judged_as_text opb proof before after none given v judged

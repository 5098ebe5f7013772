use Rattle.proof_lines.proofs.LinesJoined.{lines_joined}
use Rattle.proof_lines.proofs.laws.lines_of_two_texts.Goals as goal

pub returns : goal.returns
returns c number a b = lines_joined number a b

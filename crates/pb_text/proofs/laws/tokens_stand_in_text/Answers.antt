use Rattle.pb_text.proofs.Spans.{lexemes_stand}
use Rattle.pb_text.proofs.laws.tokens_stand_in_text.Goals as goal

pub returns : goal.returns
returns c = lexemes_stand

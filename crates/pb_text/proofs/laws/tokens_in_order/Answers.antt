use Rattle.pb_text.proofs.Spans.{lexemes_in_order}
use Rattle.pb_text.proofs.laws.tokens_in_order.Goals as goal

pub returns : goal.returns
returns c = lexemes_in_order

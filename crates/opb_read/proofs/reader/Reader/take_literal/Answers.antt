use Rattle.std.proofs.Common.{sym, subst}
use Rattle.pb_text.specs.Said.{SaysName}
use Rattle.pb_text.proofs.ScannedWords.{says_name}
use Rattle.opb_read.proofs.reader.Reader.take_literal.Goals as goal

pub add_term-requires-clause-says : goal.add_term-requires-clause-says
add_term-requires-clause-says c =
    subst (SaysName c.args.said) (sym c.literal_of.ensures.name) (says_name c.args.said c.args.token.text.now c.requires.says)

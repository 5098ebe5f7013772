use Rattle.std.proofs.Common.{ap, ◌∷◌, [], ◌∙◌}
use Rattle.proof_text.specs.Words.{is_first}
use Rattle.proof_text.proofs.NextWord.{byte_first}
use Rattle.proof_text.proofs.line_words.LineWords.takes_byte.Goals as goal

pub returns-clause-first : goal.returns-clause-first
returns-clause-first c = c.takes_byte.ensures.next ∙ byte_first c.args.byte c.self.inside.left c.requires ∙ ap (is_first (c.args.byte ∷ [])) c.self.view_is

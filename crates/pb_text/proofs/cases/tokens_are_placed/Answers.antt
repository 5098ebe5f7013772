use Rattle.std.proofs.Common.{refl}
use Rattle.pb_text.specs.Lexeme.{lexemes, lexemes_from}
use Rattle.pb_text.proofs.cases.tokens_are_placed.Goals as goal

pub returns-clause-starts : goal.returns-clause-starts
unfolding lexemes lexemes_from
returns-clause-starts c = refl

pub returns-clause-lines : goal.returns-clause-lines
unfolding lexemes lexemes_from
returns-clause-lines c = refl

pub returns-clause-comment : goal.returns-clause-comment
unfolding lexemes lexemes_from
returns-clause-comment c = refl

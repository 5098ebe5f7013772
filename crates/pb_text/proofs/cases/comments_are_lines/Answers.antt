use Rattle.std.proofs.Common.{refl}
use Rattle.pb_text.specs.Lexeme.{lexemes, lexemes_from}
use Rattle.pb_text.proofs.cases.comments_are_lines.Goals as goal

pub returns-clause-no_comment : goal.returns-clause-no_comment
unfolding lexemes lexemes_from
returns-clause-no_comment c = refl

pub returns-clause-to_the_end : goal.returns-clause-to_the_end
unfolding lexemes lexemes_from
returns-clause-to_the_end c = refl

pub returns-clause-inside : goal.returns-clause-inside
unfolding lexemes lexemes_from
returns-clause-inside c = refl

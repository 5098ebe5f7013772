use Rattle.std.proofs.Common.{refl}
use Rattle.pb_text.specs.Lexeme.{lexemes, lexemes_from, kind_of, kind_of_word}
use Rattle.pb_text.specs.Word.{is_integer, is_literal, is_misspelt}
use Rattle.pb_text.specs.Name.{is_name}
use Rattle.pb_text.proofs.cases.words_have_kinds.Goals as goal

pub returns-clause-symbols : goal.returns-clause-symbols
unfolding lexemes lexemes_from kind_of kind_of_word is_integer is_literal is_misspelt is_name
returns-clause-symbols c = refl

pub returns-clause-integers : goal.returns-clause-integers
unfolding lexemes lexemes_from kind_of kind_of_word is_integer is_literal is_misspelt is_name
returns-clause-integers c = refl

pub returns-clause-names : goal.returns-clause-names
unfolding lexemes lexemes_from kind_of kind_of_word is_integer is_literal is_misspelt is_name
returns-clause-names c = refl

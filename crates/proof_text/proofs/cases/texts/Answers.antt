use Rattle.std.proofs.Common.{refl}
use Rattle.pb_text.specs.Lexeme.{lexemes, lexemes_from}
use Rattle.proof_lines.specs.Lines.{counting_from}
use Rattle.proof_text.proofs.cases.texts.Goals as goal

pub returns-clause-empty : goal.returns-clause-empty
unfolding counting_from lexemes lexemes_from
returns-clause-empty c = refl

pub returns-clause-one : goal.returns-clause-one
unfolding counting_from lexemes lexemes_from
returns-clause-one c = refl

pub returns-clause-counted : goal.returns-clause-counted
unfolding counting_from lexemes lexemes_from
returns-clause-counted c = refl

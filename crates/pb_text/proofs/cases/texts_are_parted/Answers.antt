use Rattle.std.proofs.Common.{refl}
use Rattle.pb_text.specs.Lexeme.{lexemes, lexemes_from}
use Rattle.pb_text.proofs.cases.texts_are_parted.Goals as goal

pub returns-clause-arrow : goal.returns-clause-arrow
unfolding lexemes lexemes_from
returns-clause-arrow c = refl

pub returns-clause-no_arrow : goal.returns-clause-no_arrow
unfolding lexemes lexemes_from
returns-clause-no_arrow c = refl

pub returns-clause-parted : goal.returns-clause-parted
unfolding lexemes lexemes_from
returns-clause-parted c = refl

pub returns-clause-symbols : goal.returns-clause-symbols
unfolding lexemes lexemes_from
returns-clause-symbols c = refl

pub returns-clause-dense : goal.returns-clause-dense
unfolding lexemes lexemes_from
returns-clause-dense c = refl

pub returns-clause-white : goal.returns-clause-white
unfolding lexemes lexemes_from
returns-clause-white c = refl

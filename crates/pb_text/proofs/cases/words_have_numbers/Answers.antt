use Rattle.std.proofs.Common.{refl}
use Rattle.pb_text.specs.Number.{integer_size, integer_value}
use Rattle.pb_text.proofs.cases.words_have_numbers.Goals as goal

pub returns-clause-plain : goal.returns-clause-plain
unfolding integer_value integer_size
returns-clause-plain c = refl

pub returns-clause-negative : goal.returns-clause-negative
unfolding integer_value integer_size
returns-clause-negative c = refl

pub returns-clause-zero : goal.returns-clause-zero
unfolding integer_value integer_size
returns-clause-zero c = refl

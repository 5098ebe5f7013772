use Rattle.solutions.proofs.Packing.{word_made, none_left}
use Rattle.solutions.proofs.packed.+word_of.Goals as goal

pub returns-in-empty-clause-values : goal.returns-in-empty-clause-values
returns-in-empty-clause-values t c = none_left c.args.values.now c.in-empty.len_below

pub returns-in-len1-up-clause-values : goal.returns-in-len1-up-clause-values
returns-in-len1-up-clause-values t c = word_made c.args.values.now c.word_of.result c.from.result c.in-len1-up.len_at_least c.word_of.ensures.values c.from.ensures

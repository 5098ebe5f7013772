-- The term at the place has no lower variable, and those after it have higher ones.
use Rattle.substitution.proofs.Pass.{rises_read}
use Rattle.substitution.proofs.covering.first_from.Goals as goal

pub returns-else-term-variable-clause-ahead : goal.returns-else-term-variable-clause-ahead
returns-else-term-variable-clause-ahead c = rises_read (c.args.variable.0) c.args.constraint.now.terms c.loop-place.place c.term.result c.len.ensures.normal.rises c.term.ensures.value c.if-term-variable.false

-- The one literal outlasts the other, or the other way round.
use Rattle.std.proofs.Common.{arith}
use Rattle.normal_form.proofs.Sums.{bound_at}
use Rattle.ledger.proofs.choosing.later_of.Goals as goal

pub outlasts-requires-clause-literal : goal.outlasts-requires-clause-literal
outlasts-requires-clause-literal c = grind (arith, bound_at c.args.constraint.now.terms c.args.one c.term.result c.requires.one, c.term.ensures.value, c.requires.variables, c.literal-first.ensures)

pub outlasts-requires-clause-other : goal.outlasts-requires-clause-other
outlasts-requires-clause-other c = grind (arith, bound_at c.args.constraint.now.terms c.args.other c.term-2.result c.requires.other, c.term-2.ensures.value, c.requires.variables, c.literal-second.ensures)

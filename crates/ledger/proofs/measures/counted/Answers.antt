-- A term's variable is in the table, and its coefficient counts where its literal is not made false.
use Rattle.std.proofs.Common.{arith}
use Rattle.normal_form.proofs.Sums.{bound_at, sum_over_more}
use Rattle.propagate.specs.Slack.{not_false}
use Rattle.ledger.proofs.measures.counted.Goals as goal

pub has_propagated-requires : goal.has_propagated-requires
has_propagated-requires c = grind (arith, bound_at c.args.constraint.now.terms c.args.place c.term-term.result c.requires.place, c.term-term.ensures.value, c.requires.variables, c.opposite.ensures, c.literal.ensures)

pub returns-then-has_propagated : goal.returns-then-has_propagated
returns-then-has_propagated c = grind (arith, sum_over_more (not_false c.args.trail.now.0) c.args.constraint.now.terms c.args.place c.term-term.result c.requires.place, c.term-term.ensures.value, c.has_propagated.ensures, c.opposite.ensures, c.literal.ensures, c.if-has_propagated.true)

pub returns-else-has_propagated : goal.returns-else-has_propagated
returns-else-has_propagated c = grind (arith, sum_over_more (not_false c.args.trail.now.0) c.args.constraint.now.terms c.args.place c.term-term.result c.requires.place, c.term-term.ensures.value, c.has_propagated.ensures, c.opposite.ensures, c.literal.ensures, c.if-has_propagated.false)

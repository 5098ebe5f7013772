-- Its coefficient counts where its literal is not made false.
use Rattle.std.proofs.Common.{arith}
use Rattle.normal_form.proofs.Sums.{sum_over_more}
use Rattle.propagate.specs.Slack.{not_false}
use Rattle.bounding.proofs.judgement.counted.Goals as goal

pub returns-then-has : goal.returns-then-has
returns-then-has c = grind (arith, sum_over_more (not_false c.args.standing.now) c.args.constraint.now.terms c.args.place c.term-term.result c.requires, c.term-term.ensures.value, c.has.ensures, c.opposite.ensures, c.literal.ensures, c.if-has.true)

pub returns-else-has : goal.returns-else-has
returns-else-has c = grind (arith, sum_over_more (not_false c.args.standing.now) c.args.constraint.now.terms c.args.place c.term-term.result c.requires, c.term-term.ensures.value, c.has.ensures, c.opposite.ensures, c.literal.ensures, c.if-has.false)

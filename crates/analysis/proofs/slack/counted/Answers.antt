-- Its coefficient counts where its literal is not made false.
use Rattle.std.proofs.Common.{arith}
use Rattle.normal_form.proofs.Sums.{sum_over_more}
use Rattle.propagate.specs.Slack.{not_false}
use Rattle.analysis.specs.Biting.{literals_up_to}
use Rattle.analysis.proofs.slack.counted.Goals as goal

pub returns-then-is_true_at : goal.returns-then-is_true_at
returns-then-is_true_at c = grind (arith, sum_over_more (not_false (literals_up_to c.args.level c.args.trail.now.entries)) c.args.constraint.now.terms c.args.place c.term-term.result c.requires, c.term-term.ensures.value, c.is_true_at.ensures, c.opposite.ensures, c.literal.ensures, c.if-is_true_at.true)

pub returns-else-is_true_at : goal.returns-else-is_true_at
returns-else-is_true_at c = grind (arith, sum_over_more (not_false (literals_up_to c.args.level c.args.trail.now.entries)) c.args.constraint.now.terms c.args.place c.term-term.result c.requires, c.term-term.ensures.value, c.is_true_at.ensures, c.opposite.ensures, c.literal.ensures, c.if-is_true_at.false)

use Rattle.std.proofs.Common.{arith}
use Rattle.normal_form.specs.Normal.{only}
use Rattle.normal_form.proofs.Sums.{sum_over_more}
use Rattle.analysis.proofs.reduction.counted.Goals as goal

pub returns-then-is_of : goal.returns-then-is_of
returns-then-is_of c = grind (arith, sum_over_more (only (c.args.literal.var.0) c.args.literal.negated) c.args.constraint.now.terms c.args.place c.term-term.result c.requires, c.term-term.ensures.value, c.is_of.ensures, c.if-is_of.true)

pub returns-else-is_of : goal.returns-else-is_of
returns-else-is_of c = grind (arith, sum_over_more (only (c.args.literal.var.0) c.args.literal.negated) c.args.constraint.now.terms c.args.place c.term-term.result c.requires, c.term-term.ensures.value, c.is_of.ensures, c.if-is_of.false)

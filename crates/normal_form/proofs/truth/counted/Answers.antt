-- A term's variable has a value, and its coefficient counts where its literal is true.
use Rattle.std.proofs.Common.{arith}
use Rattle.linear.specs.Valuation.{valuation_of, literal_true}
use Rattle.normal_form.proofs.Sums.{bound_at, sum_over_more}
use Rattle.normal_form.proofs.truth.counted.Goals as goal

pub is_true-requires : goal.is_true-requires
is_true-requires c = grind (arith, bound_at c.args.constraint.now.terms c.args.place c.term-term.result c.requires.place, c.term-term.ensures.value, c.requires.values)

pub returns-then-is_true : goal.returns-then-is_true
returns-then-is_true c = grind (arith, sum_over_more (literal_true (valuation_of c.args.assignment.now)) c.args.constraint.now.terms c.args.place c.term-term.result c.requires.place, c.term-term.ensures.value, c.is_true.ensures, c.if-is_true.true)

pub returns-else-is_true : goal.returns-else-is_true
returns-else-is_true c = grind (arith, sum_over_more (literal_true (valuation_of c.args.assignment.now)) c.args.constraint.now.terms c.args.place c.term-term.result c.requires.place, c.term-term.ensures.value, c.is_true.ensures, c.if-is_true.false)

-- Each step makes the terms up to the next place.
use Rattle.std.proofs.Common.{◌*◌, refl, arith}
use Rattle.normal_form.specs.Normal.{total}
use Rattle.cut_rules.specs.Steps.{times}
use Rattle.cut_rules.proofs.MergeSteps.{coefficient_at}
use Rattle.cut_rules.proofs.Changed.{changed_below, changed_more}
use Rattle.cut_rules.proofs.OneOperand.{times_small}
use Rattle.cut_rules.proofs.multiplication.scaled.Goals as goal

pub push_kept-requires : goal.push_kept-requires
push_kept-requires c = changed_below (times c.args.factor) c.args.constraint.now.terms c.loop-place.terms c.loop-place.place c.term-term.result c.len.ensures.normal.rises (omega (arith, c.loop-place-test.true, c.len-place-end.ensures.value)) c.term-term.ensures.value c.loop-place.invariant

pub loop-place-preserved : goal.loop-place-preserved
loop-place-preserved c = changed_more (times c.args.factor) c.args.constraint.now.terms c.loop-place.terms c.push_kept.new.terms c.loop-place.place (c.args.factor * c.term-term.result.coef) c.term-term.result (omega (arith, c.loop-place-test.true, c.len-place-end.ensures.value)) c.term-term.ensures.value c.loop-place.invariant refl c.in_ok-push_kept.ensures

pub overflow_mul-factor : goal.overflow_mul-factor
overflow_mul-factor c = omega (arith, times_small c.args.factor c.term-term.result.coef (total c.args.constraint.now.terms) (coefficient_at c.args.constraint.now.terms c.loop-place.place c.term-term.result (omega (arith, c.loop-place-test.true, c.len-place-end.ensures.value)) c.term-term.ensures.value) c.requires)

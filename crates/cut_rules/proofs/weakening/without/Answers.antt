-- Each step makes the terms up to the next place.
use Rattle.std.proofs.Common.{◌+◌, arith}
use Rattle.cut_rules.specs.Steps.{less}
use Rattle.cut_rules.proofs.Changed.{changed_below, changed_more}
use Rattle.cut_rules.proofs.OneOperand.{gone_more, gone_small}
use Rattle.cut_rules.proofs.weakening.without.Goals as goal

pub push_kept-requires : goal.push_kept-requires
push_kept-requires c = changed_below (less (c.args.var.0)) c.args.constraint.now.terms c.loop-place.terms c.loop-place.place c.term-term.result c.len.ensures.normal.rises (omega (arith, c.loop-place-test.true, c.len-place-end.ensures.value)) c.term-term.ensures.value c.loop-place.invariant.terms

pub loop-place-preserved : goal.loop-place-preserved
loop-place-preserved c = record {
  terms = changed_more (less (c.args.var.0)) c.args.constraint.now.terms c.loop-place.terms c.push_kept.new.terms c.loop-place.place c.kept_coefficient-coef.result c.term-term.result (omega (arith, c.loop-place-test.true, c.len-place-end.ensures.value)) c.term-term.ensures.value c.loop-place.invariant.terms c.kept_coefficient-coef.ensures c.in_ok-push_kept.ensures;
  gone = gone_more (c.args.var.0) c.args.constraint.now.terms c.loop-place.place c.loop-place.gone c.kept_coefficient-coef.result c.term-term.result (omega (arith, c.loop-place-test.true, c.len-place-end.ensures.value)) c.term-term.ensures.value c.loop-place.invariant.gone c.kept_coefficient-coef.ensures;
}

pub overflow_add-gone : goal.overflow_add-gone
overflow_add-gone c = omega (arith, gone_more (c.args.var.0) c.args.constraint.now.terms c.loop-place.place c.loop-place.gone c.kept_coefficient-coef.result c.term-term.result (omega (arith, c.loop-place-test.true, c.len-place-end.ensures.value)) c.term-term.ensures.value c.loop-place.invariant.gone c.kept_coefficient-coef.ensures, gone_small (c.args.var.0) c.args.constraint.now.terms (c.loop-place.place + 1) c.len.ensures.normal.fits.sum)

-- Each step makes the terms up to the next place.
use Rattle.std.proofs.Common.{arith}
use Rattle.cut_rules.specs.Steps.{parts}
use Rattle.cut_rules.proofs.Changed.{changed_below, changed_more}
use Rattle.cut_rules.proofs.division.divided.Goals as goal

pub push_kept-requires : goal.push_kept-requires
push_kept-requires c = changed_below (parts c.args.divisor) c.args.constraint.now.terms c.loop-place.terms c.loop-place.place c.term-term.result c.len.ensures.normal.rises (omega (arith, c.loop-place-test.true, c.len-place-end.ensures.value)) c.term-term.ensures.value c.loop-place.invariant

pub loop-place-preserved : goal.loop-place-preserved
loop-place-preserved c = changed_more (parts c.args.divisor) c.args.constraint.now.terms c.loop-place.terms c.push_kept.new.terms c.loop-place.place c.divided_up.result c.term-term.result (omega (arith, c.loop-place-test.true, c.len-place-end.ensures.value)) c.term-term.ensures.value c.loop-place.invariant c.divided_up.ensures c.in_ok-push_kept.ensures

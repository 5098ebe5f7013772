-- Each step divides the coefficient of the next place.
use Rattle.std.proofs.Common.{◌∙◌, ◌<◌, length, arith}
use Rattle.cut_rules.specs.Steps.{parts}
use Rattle.cut_rules.proofs.InPlace.{inside, above_none, no_greater, changed_next, changed_all}
use Rattle.cut_rules.proofs.OneOperand.{parts_down, parts_up}
use Rattle.cut_rules.proofs.division.divide_terms.Goals as goal

pub term-requires : goal.term-requires
term-requires c = inside (parts c.args.divisor) c.args.constraint.now.terms c.loop-place.constraint.terms c.loop-place.place (omega (arith, c.loop-place-test.true, c.len-place-end.ensures.value)) c.loop-place.invariant.terms

pub lower_coefficient-requires-clause-place : goal.lower_coefficient-requires-clause-place
lower_coefficient-requires-clause-place c = inside (parts c.args.divisor) c.args.constraint.now.terms c.loop-place.constraint.terms c.loop-place.place (omega (arith, c.loop-place-test.true, c.len-place-end.ensures.value)) c.loop-place.invariant.terms

pub lower_coefficient-requires-clause-positive : goal.lower_coefficient-requires-clause-positive
lower_coefficient-requires-clause-positive c = above_none (parts c.args.divisor) c.args.constraint.now.terms c.loop-place.constraint.terms c.loop-place.place c.divided_up-coef.result c.term.result c.len-place-end.ensures.normal.rises (omega (arith, c.loop-place-test.true, c.len-place-end.ensures.value)) c.loop-place.invariant.terms c.term.ensures.value (parts_up c.args.divisor c.requires) c.divided_up-coef.ensures

pub lower_coefficient-requires-clause-no_greater : goal.lower_coefficient-requires-clause-no_greater
lower_coefficient-requires-clause-no_greater c =
    let here : c.loop-place.place < length c.loop-place.constraint.terms = inside (parts c.args.divisor) c.args.constraint.now.terms c.loop-place.constraint.terms c.loop-place.place (omega (arith, c.loop-place-test.true, c.len-place-end.ensures.value)) c.loop-place.invariant.terms in
    no_greater (parts c.args.divisor) c.loop-place.constraint.terms c.loop-place.place c.divided_up-coef.result c.term.result here c.term.ensures.value (λ _ n. parts_down c.args.divisor c.requires n) c.divided_up-coef.ensures

pub loop-place-preserved : goal.loop-place-preserved
loop-place-preserved c = record {
  terms = changed_next (parts c.args.divisor) c.args.constraint.now.terms c.loop-place.constraint.terms c.lower_coefficient.new.self.terms c.loop-place.place c.divided_up-coef.result c.term.result (omega (arith, c.loop-place-test.true, c.len-place-end.ensures.value)) c.loop-place.invariant.terms c.term.ensures.value c.divided_up-coef.ensures c.lower_coefficient.ensures.terms;
  degree = c.lower_coefficient.ensures.degree ∙ c.loop-place.invariant.degree;
}

pub returns-clause-terms : goal.returns-clause-terms
returns-clause-terms c = changed_all (parts c.args.divisor) c.args.constraint.now.terms c.loop-place.constraint.terms c.loop-place.place c.len-place-end.ensures.normal.rises (parts_up c.args.divisor c.requires) (omega (arith, c.loop-place-test.false, c.len-place-end.ensures.value, c.loop-place.auto.place-end)) c.loop-place.invariant.terms

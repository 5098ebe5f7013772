-- The coefficients are above 0, and the variables rise.
use Rattle.std.proofs.Common.{rules, ◌≡◌, ◌<◌, false, length, get_or, ap, arith, FitsSigned, to_z, of_z}
use mir.Syntax.{w128}
use Rattle.std.specs.Prelude.{pos, unsigned_abs}
use Rattle.std.proofs.lemmas.Int.{to_z-of_z}
use Rattle.std.proofs.lemmas.List.{get_or_default}
use Rattle.linear.specs.declared.term.Term.{Term}
use Rattle.normal_form.proofs.PlainTerms.{plain_below, plain_coefficient}
use Rattle.normal_form.proofs.plain.plain_terms.Goals as goal

none : Term
none = record { coef = pos 0; var = record { 0 = 0 }; negated = false }

pub push-requires-clause-coefficient : goal.push-requires-clause-coefficient
unfolding none
push-requires-clause-coefficient c =
    let ts = c.args.terms.now in
    let i = c.loop-place.place in
    let t : Term = get_or ts i none in
    let inside : i < length ts = omega (arith, c.loop-place-test.true, c.loop-place.auto.place-end) in
    let fits : FitsSigned w128 t.coef = search rules in
    let back : to_z w128 (of_z w128 t.coef) ≡ t.coef = to_z-of_z w128 t.coef fits in
    omega (arith, c.unsigned_abs.ensures.value, ap unsigned_abs back, plain_coefficient ts i t c.requires inside (get_or_default ts i none t inside))

pub push-requires-clause-variable : goal.push-requires-clause-variable
unfolding none
push-requires-clause-variable c =
    let ts = c.args.terms.now in
    let i = c.loop-place.place in
    let t : Term = get_or ts i none in
    let inside : i < length ts = omega (arith, c.loop-place-test.true, c.loop-place.auto.place-end) in
    plain_below ts c.loop-place.made i t c.requires inside c.loop-place.invariant (get_or_default ts i none t inside)

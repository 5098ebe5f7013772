-- Each step looks at one term more.
use Rattle.std.proofs.Common.{◌≡◌, ◌<◌, false, length, refl, sym, get_or, arith}
use Rattle.std.specs.Prelude.{pos}
use Rattle.std.proofs.lemmas.Int.{ints}
use Rattle.std.proofs.lemmas.List.{get_or_default}
use Rattle.linear.specs.declared.term.Term.{Term}
use Rattle.normal_form.proofs.PlainTerms.{plain_more}
use Rattle.normal_form.proofs.plain.are_plain.Goals as goal

pub loop-place-init : goal.loop-place-init
loop-place-init c = record { plain = tt; next = refl }

pub loop-place-preserved : goal.loop-place-preserved
loop-place-preserved c =
    let ts = c.args.terms.now in
    let i = c.loop-place.place in
    let none : Term = record { coef = pos 0; var = record { 0 = 0 }; negated = false } in
    let t : Term = get_or ts i none in
    let inside : i < length ts = omega (arith, c.loop-place-test.true, c.loop-place.auto.place-end) in
    let more = plain_more ts i t inside (get_or_default ts i none t inside) c.loop-place.invariant.plain (omega (arith, c.if-var-next.false, c.loop-place.invariant.next)) (omega (arith, ints, c.if-term-le0.false)) in
    record { plain = more.0; next = sym more.1 }

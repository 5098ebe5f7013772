-- Each term is put in at its image; what is constant stays within the coefficient sum.
use Rattle.std.proofs.Common.{◌≡◌, ◌+◌, ap, ◌∙◌, to_z, arith}
use Rattle.std.specs.Prelude.{pos}
use Rattle.std.proofs.lemmas.Int.{ints}
use mir.Syntax.{w128}
use Rattle.linear.specs.declared.term.Lit.{Lit}
use Rattle.substitution.specs.Images.{image_of_literal}
use Rattle.substitution.proofs.PuttingIn.{terms_before, constant_before, terms_more, constant_more, constant_room, coefficient_small, terms_step, constant_step}
use Rattle.substitution.proofs.application.with_images.Goals as goal

pub overflow_cast-term : goal.overflow_cast-term
overflow_cast-term c =
    omega (arith, ints, coefficient_small c.args.constraint.now.terms c.loop-place.place c.term-term.result (omega arith) c.term-term.ensures.value, c.len.ensures.normal.fits.sum)

pub put-requires : goal.put-requires
put-requires c =
    let small = coefficient_small c.args.constraint.now.terms c.loop-place.place c.term-term.result (omega arith) c.term-term.ensures.value in
    let same : to_z w128 c.term-term.result.coef ≡ pos c.term-term.result.coef = omega (arith, ints, small, c.len.ensures.normal.fits.sum) in
    let room = constant_room c.args.substitution.now c.args.constraint.now.terms c.loop-place.place c.term-term.result (omega arith) c.term-term.ensures.value in
    omega (arith, ints, same, room, c.loop-place.invariant.1, c.len.ensures.normal.fits.sum)

pub loop-place-preserved : goal.loop-place-preserved
loop-place-preserved c =
    let ts = c.args.constraint.now.terms in
    let w = c.args.substitution.now in
    let i = c.loop-place.place in
    let t = c.term-term.result in
    let small = coefficient_small ts i t (omega arith) c.term-term.ensures.value in
    let same : to_z w128 t.coef ≡ pos t.coef = omega (arith, ints, small, c.len.ensures.normal.fits.sum) in
    let image = c.image_of_literal-image.ensures ∙ ap (λ (l : Lit). image_of_literal w (l.var.0) l.negated) c.literal.ensures in (
      terms_step c.put.new.self.terms.items c.loop-place.partial.terms.items (terms_before w ts i) (terms_before w ts (i + 1)) (to_z w128 t.coef) (pos t.coef) c.image_of_literal-image.result (image_of_literal w (t.var.0) t.negated)
          c.in_ok-put.ensures.terms c.loop-place.invariant.0 same image (terms_more w ts i t (omega arith) c.term-term.ensures.value),
      constant_step c.put.new.self.constant c.loop-place.partial.constant (constant_before w ts i) (constant_before w ts (i + 1)) (to_z w128 t.coef) (pos t.coef) c.image_of_literal-image.result (image_of_literal w (t.var.0) t.negated)
          c.in_ok-put.ensures.constant c.loop-place.invariant.1 same image (constant_more w ts i t (omega arith) c.term-term.ensures.value),
    )

-- Each term is put in at its image with its sign changed; the sizes leave room.
use Rattle.std.proofs.Common.{◌+◌, false, get_or, ap, ◌∙◌, arith}
use Rattle.std.specs.Prelude.{pos, neg_ℤ}
use Rattle.std.proofs.lemmas.Int.{ints}
use Rattle.linear.specs.declared.term.Lit.{Lit}
use Rattle.linear.specs.declared.term.Term.{Term}
use Rattle.normal_form.proofs.Runs.{size_at}
use Rattle.substitution.specs.Images.{image_of_literal}
use Rattle.substitution.proofs.Opposites.{opposite_kept}
use Rattle.substitution.proofs.PuttingIn.{terms_step, constant_step}
use Rattle.substitution.proofs.Difference.{difference_before, taken_before, difference_more, taken_more, taken_room}
use Rattle.substitution.proofs.objective.with_images.Goals as goal

abbrev first : Term
first = record { coef = pos 0; var = record { 0 = 0 }; negated = false }

pub overflow_sub-term : goal.overflow_sub-term
overflow_sub-term c =
    omega (arith, ints, size_at c.args.objective.now c.loop-term.term-index first (omega arith), c.requires)

pub put-requires : goal.put-requires
put-requires c =
    let ts = c.args.objective.now in
    let i = c.loop-term.term-index in
    let size = size_at ts i first (omega arith) in
    let room = taken_room c.args.substitution.now ts i first (omega arith) in
    let same = opposite_kept (get_or ts i first).coef (omega (arith, size, c.requires)) in
    omega (arith, ints, same, room, c.loop-term.invariant.1, c.requires)

pub loop-term-preserved : goal.loop-term-preserved
loop-term-preserved c =
    let ts = c.args.objective.now in
    let w = c.args.substitution.now in
    let i = c.loop-term.term-index in
    let t = get_or ts i first in
    let size = size_at ts i first (omega arith) in
    let same = opposite_kept t.coef (omega (arith, size, c.requires)) in
    let is = c.image_of_literal-image.ensures ∙ ap (λ (l : Lit). image_of_literal w (l.var.0) l.negated) c.literal.ensures in (
      terms_step c.put.new.self.terms.items c.loop-term.partial.terms.items (difference_before w ts i) (difference_before w ts (i + 1)) _ (neg_ℤ t.coef) c.image_of_literal-image.result (image_of_literal w (t.var.0) t.negated)
          c.in_ok-put.ensures.terms c.loop-term.invariant.0 same is (difference_more w ts i first (omega arith)),
      constant_step c.put.new.self.constant c.loop-term.partial.constant (taken_before w ts i) (taken_before w ts (i + 1)) _ (neg_ℤ t.coef) c.image_of_literal-image.result (image_of_literal w (t.var.0) t.negated)
          c.in_ok-put.ensures.constant c.loop-term.invariant.1 same is (taken_more w ts i first (omega arith)),
    )

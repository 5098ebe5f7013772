use Rattle.std.proofs.Common.{◌∙◌, ap}
use Rattle.std.proofs.lemmas.List.{get_or_default}
use Rattle.linear.specs.declared.term.Var.{Var}
use Rattle.substitution.specs.declared.image.Image.{Image}
use Rattle.substitution.proofs.substitution.stand_once.Goals as goal

pub returns-then-stands_before : goal.returns-then-stands_before
returns-then-stands_before c = (
  λ f. absurd (cc f),
  λ once. absurd (c.stands_before.ensures.twice c.if-stands_before.true (λ i d below same.
      once i c.loop-place.place d below c.loop-place-test.true
      (same ∙ ap (λ (p : Var × Image). p.0.0) (get_or_default c.args.images.now c.loop-place.place _ d c.loop-place-test.true)))),
)

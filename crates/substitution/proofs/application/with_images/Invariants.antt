use Rattle.std.proofs.Common.{◌≡◌}
use Rattle.substitution.proofs.PuttingIn.{terms_before, constant_before}
use Rattle.substitution.proofs.application.with_images.Given as goal

abbrev pub invariant-loop-place : goal.invariant-loop-place
invariant-loop-place l =
    (l.partial.terms.items ≡ terms_before l.substitution l.constraint.terms l.place)
    × (l.partial.constant ≡ constant_before l.substitution l.constraint.terms l.place)

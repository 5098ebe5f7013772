-- The sum so far is that of the terms before this one.
use Rattle.std.proofs.Common.{◌≡◌, take}
use Rattle.normal_form.specs.Normal.{sum_over}
use Rattle.normal_form.proofs.degrees.negated_total.Given as goal

abbrev pub invariant-loop-place : goal.invariant-loop-place
invariant-loop-place l = l.sum ≡ sum_over (λ _ negated. negated) (take l.place l.fn.terms)

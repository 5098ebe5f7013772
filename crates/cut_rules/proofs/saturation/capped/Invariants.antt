-- What is made so far is made of the terms before this place.
use Rattle.std.proofs.Common.{◌≡◌, min, take}
use Rattle.cut_rules.specs.Steps.{changed}
use Rattle.cut_rules.proofs.saturation.capped.Given as goal

abbrev pub invariant-loop-place : goal.invariant-loop-place
invariant-loop-place l = l.terms ≡ changed (λ _ c. min c l.cap) (take l.place l.constraint.terms)

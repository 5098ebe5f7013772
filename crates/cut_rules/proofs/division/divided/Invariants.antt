-- What is made so far is made of the terms before this place.
use Rattle.std.proofs.Common.{◌≡◌, take}
use Rattle.cut_rules.specs.Steps.{changed, parts}
use Rattle.cut_rules.proofs.division.divided.Given as goal

abbrev pub invariant-loop-place : goal.invariant-loop-place
invariant-loop-place l = l.terms ≡ changed (parts l.divisor) (take l.place l.constraint.terms)

-- What is made so far is made of the terms before this place.
use Rattle.std.proofs.Common.{◌≡◌, take}
use Rattle.cut_rules.specs.Steps.{changed, times}
use Rattle.cut_rules.proofs.multiplication.scaled.Given as goal

abbrev pub invariant-loop-place : goal.invariant-loop-place
invariant-loop-place l = l.terms ≡ changed (times l.factor) (take l.place l.constraint.terms)

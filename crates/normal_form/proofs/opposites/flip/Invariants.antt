-- What is made so far is the terms before this one with the opposite literals.
use Rattle.std.proofs.Common.{◌≡◌, take}
use Rattle.normal_form.specs.Balance.{flipped}
use Rattle.normal_form.proofs.opposites.flip.Given as goal

abbrev pub invariant-loop-place : goal.invariant-loop-place
invariant-loop-place l = l.opposite ≡ flipped (take l.place l.fn.terms)

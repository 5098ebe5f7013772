-- What is made so far is the terms before this one.
use Rattle.std.proofs.Common.{◌≡◌, map, take}
use Rattle.normal_form.specs.Plain.{plain_term}
use Rattle.normal_form.proofs.plain.plain_terms.Given as goal

abbrev pub invariant-loop-place : goal.invariant-loop-place
invariant-loop-place l = l.made ≡ map plain_term (take l.place l.terms)

-- The sum so far is that of the terms before this one.
use Rattle.std.proofs.Common.{◌≡◌, take}
use Rattle.normal_form.specs.NormalOf.{negated_sum}
use Rattle.normal_form.proofs.degrees.negated_sum.Given as goal

abbrev pub invariant-loop-term : goal.invariant-loop-term
invariant-loop-term l = l.sum ≡ negated_sum (take l.term-index l.terms)

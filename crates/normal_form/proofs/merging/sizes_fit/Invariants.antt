-- The sum so far is that of the sizes so far, or the largest number where that is above it.
use Rattle.std.proofs.Common.{◌≡◌, ◌-◌, ◌^◌, min, take}
use Rattle.normal_form.specs.NormalOf.{size_sum}
use Rattle.normal_form.proofs.merging.sizes_fit.Given as goal

abbrev pub invariant-loop-term : goal.invariant-loop-term
invariant-loop-term l = l.sum ≡ min (size_sum (take l.term-index l.terms)) (2 ^ 128 - 1)

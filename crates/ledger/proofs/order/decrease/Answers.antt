-- No coefficient is above the one before it.
use Rattle.std.proofs.Common.{refl, arith}
use Rattle.ledger.proofs.DecreasingTerms.{decreasing_as_they_stand}
use Rattle.ledger.proofs.order.decrease.Goals as goal

pub returns : goal.returns
returns c = ((λ never. decreasing_as_they_stand c.args.constraint.now.terms (λ k some low. c.loop-place.invariant k some (omega (arith, low, c.loop-place-test.false, c.loop-place.auto.place-end, c.len-place-end.ensures.value)))), λ o. refl)

-- No mark is ahead at the end.
use Rattle.std.proofs.Common.{length, arith, ap}
use Rattle.accumulate.specs.Nets.{IsAhead}
use Rattle.accumulate.proofs.Taking.{nothing}
use Rattle.accumulate.proofs.reading.clear.Goals as goal

pub returns-clause-sizes : goal.returns-clause-sizes
returns-clause-sizes c = (nothing 0 c.loop-var.nets.items (λ i p. let a : IsAhead c.loop-var.var-index c.args.touched.now.items i = c.loop-var.invariant.ahead i p in omega (arith, a.1, a.2, c.loop-var-test.false, ap length c.deref-var-items.ensures.value))).0

pub returns-clause-terms : goal.returns-clause-terms
returns-clause-terms c = (nothing 0 c.loop-var.nets.items (λ i p. let a : IsAhead c.loop-var.var-index c.args.touched.now.items i = c.loop-var.invariant.ahead i p in omega (arith, a.1, a.2, c.loop-var-test.false, ap length c.deref-var-items.ensures.value))).1

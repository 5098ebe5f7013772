-- The marks are tidied, and the terms are read off.
use Rattle.std.proofs.Common.{arith}
use Rattle.accumulate.proofs.Taking.{kept_fits}
use Rattle.accumulate.proofs.Tidied.{in_order, kept_with}
use Rattle.accumulate.proofs.accumulator.Accumulator.take.Goals as goal

pub collect-requires-clause-marks : goal.collect-requires-clause-marks
collect-requires-clause-marks c = c.tidy.ensures.marks

pub collect-requires-clause-order : goal.collect-requires-clause-order
collect-requires-clause-order c = in_order c.tidy.new.touched.items c.self.inside.nets.items c.in_ok-tidy.ensures.tidy

pub invariant_of-self-in_err-terms : goal.invariant_of-self-in_err-terms
invariant_of-self-in_err-terms c = (kept_with c.self.inside.nets.items c.self.inside.touched.items c.tidy.new.touched.items c.self.inside.sum c.self.inside.degree c.tidy.ensures.marks c.self.invariant.0, c.self.invariant.1)

pub collect-requires-clause-small : goal.collect-requires-clause-small
collect-requires-clause-small c = omega (arith, c.self.invariant.0.summed, c.self.invariant.0.small)

pub finish_fitting-taken-requires : goal.finish_fitting-taken-requires
finish_fitting-taken-requires c = kept_fits c.self.inside.nets.items c.self.inside.touched.items c.self.inside.sum c.self.inside.degree c.in_ok-terms.terms c.in_ok-terms.ensures c.self.invariant.0

pub invariant_of-self-2 : goal.invariant_of-self-2
invariant_of-self-2 c = (kept_with c.self.inside.nets.items c.self.inside.touched.items c.tidy.new.touched.items c.self.inside.sum c.self.inside.degree c.tidy.ensures.marks c.self.invariant.0, c.self.invariant.1)

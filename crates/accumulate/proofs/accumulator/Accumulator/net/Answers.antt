use Rattle.std.proofs.Common.{true, false, arith}
use Rattle.accumulate.proofs.ReadCells.{plain_at, negated_at, none_at}
use Rattle.accumulate.proofs.accumulator.Accumulator.net.Goals as goal

pub returns-then-place-len-clause-plain : goal.returns-then-place-len-clause-plain
returns-then-place-len-clause-plain c = plain_at c.args.self.now c.self.inside.nets.items c.self.inside.touched.items c.self.inside.sum c.self.inside.degree (c.args.var.0) c.index.result.now c.self.view_is c.self.invariant.0 (omega (arith, c.if-place-len.true, c.len.ensures)) c.index.ensures

pub returns-then-place-len-clause-negated : goal.returns-then-place-len-clause-negated
returns-then-place-len-clause-negated c = negated_at c.args.self.now c.self.inside.nets.items c.self.inside.touched.items c.self.inside.sum c.self.inside.degree (c.args.var.0) c.index.result.now c.self.view_is c.self.invariant.0 (omega (arith, c.if-place-len.true, c.len.ensures)) c.index.ensures

pub returns-else-place-len-clause-plain : goal.returns-else-place-len-clause-plain
returns-else-place-len-clause-plain c = none_at c.args.self.now c.self.inside.nets.items c.self.inside.degree (c.args.var.0) false c.self.view_is (omega (arith, c.if-place-len.false, c.len.ensures))

pub returns-else-place-len-clause-negated : goal.returns-else-place-len-clause-negated
returns-else-place-len-clause-negated c = none_at c.args.self.now c.self.inside.nets.items c.self.inside.degree (c.args.var.0) true c.self.view_is (omega (arith, c.if-place-len.false, c.len.ensures))

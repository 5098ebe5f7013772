-- The place in the middle takes the place of the lower or of the higher one.
use Rattle.std.proofs.Common.{◌+◌, ◌-◌, ◌/◌, arith}
use Rattle.substitution.proofs.Sought.{passed_low}
use Rattle.substitution.proofs.Pass.{rises_read}
use Rattle.substitution.proofs.lookup.place_of.Goals as goal

pub loop-low-preserved-then-term-variable : goal.loop-low-preserved-then-term-variable
loop-low-preserved-then-term-variable c =
    let at = c.loop-low in
    let middle = at.low + (at.high - at.low) / 2 in (
      omega arith,
      at.invariant.1,
      at.invariant.2,
      λ s. passed_low c.args.constraint.now.terms middle c.term.result c.args.variable s c.len-high.ensures.normal.rises (omega arith) c.term.ensures.value c.if-term-variable.true,
    )

pub loop-low-preserved : goal.loop-low-preserved
loop-low-preserved c =
    let at = c.loop-low in
    let middle = at.low + (at.high - at.low) / 2 in (
      omega arith,
      omega arith,
      rises_read c.args.variable c.args.constraint.now.terms middle c.term.result c.len-high.ensures.normal.rises c.term.ensures.value c.if-term-variable.false,
      at.invariant.3,
    )

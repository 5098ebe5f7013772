-- One literal more is there.
use Rattle.std.proofs.Common.{arith, false}
use Rattle.linear.specs.declared.term.Lit.{Lit}
use Rattle.propagate.proofs.WalkEnds.{same_more}
use Rattle.watch.proofs.GivenReasons.{marks_consistent}
use Rattle.watch.proofs.telling.marks_of.Goals as goal

abbrev none : Lit
none = record { var = record { 0 = 0 }; negated = false }

pub mark-requires-clause-consistent : goal.mark-requires-clause-consistent
mark-requires-clause-consistent c = marks_consistent c.loop-literal.marks.0 c.args.given.now c.loop-literal.literal-index none (omega arith) c.loop-literal.invariant.1 c.requires.consistent

pub loop-literal-preserved : goal.loop-literal-preserved
loop-literal-preserved c = (
  omega (arith, c.mark.ensures.count, c.loop-literal.invariant.0),
  same_more c.args.given.now c.loop-literal.marks.0 c.mark.new.marks.0 c.loop-literal.literal-index none (omega arith) c.loop-literal.invariant.1 c.mark.ensures.same,
)

-- The literals so far are those of the trail; a literal whose opposite is there contradicts them.
use Rattle.std.proofs.Common.{false, ◌∙◌, arith}
use Rattle.linear.specs.declared.term.Lit.{Lit}
use Rattle.propagate.proofs.WalkEnds.{contradicts_at, same_more, consistent_more}
use Rattle.propagate.proofs.trail.Trail.of.Goals as goal

abbrev first : Lit
first = record { var = record { 0 = 0 }; negated = false }

pub returns-then-not-admit-clause-none : goal.returns-then-not-admit-clause-none
returns-then-not-admit-clause-none c _ =
    contradicts_at c.args.assigned.now c.loop-literal.trail.0 c.loop-literal.literal-index first c.loop-literal.invariant.1 (omega arith) (c.admit.ensures.refused c.if-not-admit.true)

pub loop-literal-preserved : goal.loop-literal-preserved
loop-literal-preserved c = (
  c.admit.ensures.count ∙ c.loop-literal.invariant.0,
  same_more c.args.assigned.now c.loop-literal.trail.0 c.admit.new.self.0 c.loop-literal.literal-index first (omega arith) c.loop-literal.invariant.1 (c.admit.ensures.admitted c.if-not-admit.false),
  consistent_more c.args.assigned.now c.loop-literal.trail.0 c.loop-literal.literal-index first (omega arith) c.loop-literal.invariant.1 (c.admit.ensures.free c.if-not-admit.false) c.loop-literal.invariant.2,
)

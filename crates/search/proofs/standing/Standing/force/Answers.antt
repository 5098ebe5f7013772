-- One literal more stands.
use Rattle.std.proofs.Common.{◌∙◌, ℕ, false, refl, arith}
use Rattle.linear.specs.declared.term.Lit.{Lit}
use Rattle.search.proofs.MoreStands.{one_more}
use Rattle.search.proofs.standing.Standing.force.Goals as goal

abbrev none : Lit × ℕ
none = (record { var = record { 0 = 0 }; negated = false }, 0)

pub loop-literal-preserved : goal.loop-literal-preserved
loop-literal-preserved c = (
  one_more c.args.self.now c.loop-literal.self c.push.new.self c.args.forced.now c.loop-literal.literal-index none _ (omega arith) refl c.loop-literal.invariant.0 c.in_ok-push.ensures.more,
  c.push.ensures.count ∙ c.loop-literal.invariant.1,
)

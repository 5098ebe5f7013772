-- All entries are ahead.
use Rattle.std.proofs.Common.{refl, subst, ◌∙◌}
use Rattle.ledger.specs.Falls.{IsPassed}
use Rattle.ledger.proofs.FallingRows.{falls, kinds_same}
use Rattle.ledger.proofs.watchers.Watchers.fall.Goals as goal

pub loop-index-init : goal.loop-index-init
loop-index-init c = record {
  falling = falls c.args.slots.now c.args.trail.now.0 c.args.trail.now.1 c.args.fallen c.args.self.now c.args.queue.now.0 c.requires.watched;
  kinds = kinds_same c.args.self.now.pairs c.args.self.now.pairs refl;
  count = refl;
  kept = λ k h. h;
}

pub loop-index-preserved : goal.loop-index-preserved
loop-index-preserved c = record {
  falling = subst (IsPassed c.args.slots.now c.args.trail.now c.args.fallen c.pass.new.self c.pass.new.queue.0) c.in-At.is c.in_ok-next.ensures.passed;
  kinds = record { count = c.pass.ensures.kinds.count ∙ c.loop-index.invariant.kinds.count; kinds = λ k. c.pass.ensures.kinds.kinds k ∙ c.loop-index.invariant.kinds.kinds k };
  count = c.pass.ensures.count ∙ c.loop-index.invariant.count;
  kept = λ k h. c.pass.ensures.kept k (c.loop-index.invariant.kept k h);
}

-- One place more of the row.
use Rattle.std.proofs.Common.{◌≡◌, ℕ, Contains, List, [], get_or, ap, subst, sym, ◌∙◌, arith}
use Rattle.linear.specs.Literal.{code}
use Rattle.ledger.specs.Watched.{Watching}
use Rattle.ledger.proofs.QueuedRows.{queued_all, queued_next}
use Rattle.ledger.proofs.watchers.Watchers.queue_last.Goals as goal

pub loop-place-preserved : goal.loop-place-preserved
loop-place-preserved c = record {
  queued = queued_next c.args.trail.now.0 c.args.self.now.pairs c.args.literal c.loop-place.queue.0 c.queue_at.new.queue.0 c.row-place-items.result.now c.loop-place.place-index c.loop-place.invariant.queued c.queue_at.ensures.kept c.queue_at.ensures.queued;
  count = c.queue_at.ensures.count ∙ c.loop-place.invariant.count;
  kept = λ k h. c.queue_at.ensures.kept k (c.loop-place.invariant.kept k h);
}

pub returns-clause-queued : goal.returns-clause-queued
returns-clause-queued c k p stands at other b =
    let row : c.row-place-items.result.now ≡ get_or c.args.self.now.rows (code c.args.literal) [] =
    c.row-place-items.ensures ∙ ap (λ (j : ℕ). get_or c.self.inside.rows j []) c.code.ensures ∙ ap (λ (w : Watching). get_or w.rows (code c.args.literal) []) c.self.view_is in
    let there : Contains c.row-place-items.result.now k = subst (λ (xs : List ℕ). Contains xs k) (sym row) stands in
    queued_all c.args.trail.now.0 c.args.self.now.pairs c.args.literal c.loop-place.queue.0 c.row-place-items.result.now
    (λ i q low. c.loop-place.invariant.queued i q (omega (arith, low, c.loop-place-test.false, c.loop-place.auto.place-index-end))) k there p at other b

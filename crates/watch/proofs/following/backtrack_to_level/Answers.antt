-- The trail as it was before the level, and what came since waits.
use Rattle.std.proofs.Common.{◌∙◌, ℕ, List, Option, ap, length, sym, arith}
use Rattle.normal_form.specs.Normal.{NormalConstraint}
use Rattle.watch.proofs.KeptLevels.{all_levels, kept_back}
use Rattle.watch.proofs.following.backtrack_to_level.Goals as goal

pub returns-then-level-count-clause-levels : goal.returns-then-level-count-clause-levels
returns-then-level-count-clause-levels c =
    all_levels c.args.ledger.now c.args.levels.now c.args.queue.now.0 c.args.queue.now.1 c.args.level (c.if-level-count.true ∙ c.count.ensures) c.requires.kept

pub returns-clause-kept : goal.returns-clause-kept
returns-clause-kept c =
    let old = c.args.ledger.now in
    let new = c.backtrack.new.ledger in
    let levels = c.args.levels.now in
    let t = c.backtrack.ensures in
    let q = c.queue_from.new.queue in
    let count = c.queue_from.ensures.count ∙ ap (λ (p : List ℕ × ℕ). p.1) c.clear.ensures ∙ c.count-2.ensures ∙ ap (length {A = Option NormalConstraint}) t.slots ∙ sym c.requires.kept.places in
    kept_back old new levels c.truncate.new.self c.args.level c.height.result c.args.queue.now.0 q.0 c.args.queue.now.1 q.1 (omega (arith, c.requires.level, c.if-level-count.false, c.count.ensures))
    c.height.ensures.value t.slots t.assigned t.propagated t.reasons count
    (λ k since low. c.queue_from.ensures.queued k (omega (arith, since, c.settled.ensures.value)) (omega (arith, low, ap (length {A = Option NormalConstraint}) t.slots)))
    c.truncate.ensures c.requires.kept

-- What is forced stands above the levels.
use Rattle.watch.proofs.KeptLevels.{kept_fixpoint, top_has}
use Rattle.watch.proofs.following.propagate_kept.Goals as goal

pub returns-in-Some-clause-kept : goal.returns-in-Some-clause-kept
returns-in-Some-clause-kept c levels k =
    let s = c.propagate_all-falsified.ensures in
    kept_fixpoint c.args.ledger.now c.propagate_all-falsified.new.ledger levels c.args.queue.now.0 c.propagate_all-falsified.new.queue.0 c.args.queue.now.1 c.propagate_all-falsified.new.queue.1 c.reveal.ensures.reasons.as_many c.reveal-2.ensures.reasons.as_many s.goes_on s.first s.count s.looked_at k

pub returns-in-None-clause-kept : goal.returns-in-None-clause-kept
returns-in-None-clause-kept c levels k =
    let s = c.propagate_all-falsified.ensures in
    kept_fixpoint c.args.ledger.now c.propagate_all-falsified.new.ledger levels c.args.queue.now.0 c.propagate_all-falsified.new.queue.0 c.args.queue.now.1 c.propagate_all-falsified.new.queue.1 c.reveal.ensures.reasons.as_many c.reveal-2.ensures.reasons.as_many s.goes_on s.first s.count s.looked_at k

pub returns-in-None-clause-end : goal.returns-in-None-clause-end
returns-in-None-clause-end c levels k =
    let old = c.args.ledger.now in
    let new = c.propagate_all-falsified.new.ledger in
    let s = c.propagate_all-falsified.ensures in
    let fixpoint = rw c.in-None.is at c.in_ok-place.ensures.end in
    let kept = kept_fixpoint old new levels c.args.queue.now.0 c.propagate_all-falsified.new.queue.0 c.args.queue.now.1 c.propagate_all-falsified.new.queue.1 c.reveal.ensures.reasons.as_many c.reveal-2.ensures.reasons.as_many s.goes_on s.first s.count s.looked_at k in
    (top_has new.assigned new.reasons levels.0 levels.1 kept.levels_are, fixpoint.1)

-- as far as memory was there
pub returns-in_err-place-clause-kept : goal.returns-in_err-place-clause-kept
returns-in_err-place-clause-kept c levels k =
    let s = c.propagate_all-falsified.ensures in
    kept_fixpoint c.args.ledger.now c.propagate_all-falsified.new.ledger levels c.args.queue.now.0 c.propagate_all-falsified.new.queue.0 c.args.queue.now.1 c.propagate_all-falsified.new.queue.1 c.reveal.ensures.reasons.as_many c.reveal-2.ensures.reasons.as_many s.goes_on s.first s.count s.looked_at k

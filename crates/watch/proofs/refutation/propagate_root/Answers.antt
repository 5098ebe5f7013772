-- By where the walk ends.
use Rattle.ledger.specs.Ledgers.{shown}
use Rattle.watch.proofs.Deciding.{decided, reached, root_after, fixpoint_after}
use Rattle.watch.proofs.refutation.propagate_root.Goals as goal

pub returns-clause-value : goal.returns-clause-value
returns-clause-value c =
    let old = c.args.ledger.now in
    decided (shown old.slots) old.assigned c.propagate_all.new.ledger.assigned c.propagate_all.new.queue.0 c.in_ok-propagate_all.field-0 c.is_some.result c.is_some.ensures
    (reached (shown old.slots) old.assigned old.reasons c.requires.forced.0 c.reveal.ensures.reasons c.requires.forced.1) c.propagate_all.ensures.goes_on.assigned c.in_ok-propagate_all.ensures.end

pub returns-clause-root : goal.returns-clause-root
returns-clause-root c = root_after c.args.ledger.now c.propagate_all.new.ledger c.args.queue.now.0 c.propagate_all.new.queue.0 c.args.queue.now.1 c.propagate_all.new.queue.1 c.requires c.propagate_all.ensures.goes_on c.propagate_all.ensures.count c.propagate_all.ensures.looked_at

pub returns-in_err-propagate_all-clause-root : goal.returns-in_err-propagate_all-clause-root
returns-in_err-propagate_all-clause-root c = root_after c.args.ledger.now c.propagate_all.new.ledger c.args.queue.now.0 c.propagate_all.new.queue.0 c.args.queue.now.1 c.propagate_all.new.queue.1 c.requires c.propagate_all.ensures.goes_on c.propagate_all.ensures.count c.propagate_all.ensures.looked_at

pub returns-clause-fixpoint : goal.returns-clause-fixpoint
returns-clause-fixpoint c = fixpoint_after c.args.ledger.now c.propagate_all.new.ledger c.propagate_all.new.queue.0 c.in_ok-propagate_all.field-0 c.is_some.result c.is_some.ensures c.propagate_all.ensures.goes_on c.in_ok-propagate_all.ensures.end

-- The extra constraints are shown behind the others.
use Rattle.watch.proofs.Deciding.{shown_all}
use Rattle.watch.proofs.refutation.refute_attached.Goals as goal

pub returns-clause-value : goal.returns-clause-value
returns-clause-value c = rw (shown_all c.args.ledger.now.slots c.attach_all.new.ledger.slots c.args.extras.now c.in_ok-attach_all.ensures.ok) at c.propagate_root.ensures.value

-- The entries differ at the id alone.
use Rattle.propagate.proofs.Entries.{one_given}
use Rattle.propagate.proofs.scan_propagator.ScanPropagatorPropagator.insert.Goals as goal

pub returns-clause-ok : goal.returns-clause-ok
returns-clause-ok c = one_given c.args.self.now.all.entries c.insert.new.self.entries c.args.id c.args.constraint (c.in_ok-insert.ensures.updates).0

-- The entries differ at the id alone.
use Rattle.std.proofs.Common.{sym, ◌∙◌}
use Rattle.propagate.proofs.Entries.{get_is, one_removed}
use Rattle.propagate.proofs.scan_propagator.ScanPropagatorPropagator.remove.Goals as goal

pub returns-clause-value : goal.returns-clause-value
returns-clause-value c = c.remove.ensures.value ∙ sym (get_is c.args.self.now.all.entries c.args.id)

pub returns-clause-removed : goal.returns-clause-removed
returns-clause-removed c = one_removed c.args.self.now.all.entries c.remove.new.self.entries c.args.id (c.remove.ensures.updates).0

-- The map that the entries make has at each id what the entries have.
use Rattle.std.proofs.Common.{sym, ◌∙◌}
use Rattle.propagate.proofs.Entries.{get_is}
use Rattle.propagate.proofs.scan_propagator.ScanPropagatorPropagator.get.Goals as goal

pub returns : goal.returns
returns c = c.get.ensures.value ∙ sym (get_is c.args.self.now.all.entries c.args.id)

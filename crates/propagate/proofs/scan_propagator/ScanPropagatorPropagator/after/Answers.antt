-- The first entry above an id has the least id above it.
use Rattle.std.proofs.Common.{sym, ◌∙◌}
use Rattle.propagate.proofs.Entries.{rise, none_above, least_above}
use Rattle.propagate.proofs.scan_propagator.ScanPropagatorPropagator.after.Goals as goal

pub returns-in-Some : goal.returns-in-Some
returns-in-Some c =
    let all = c.args.self.now.all.entries in
    least_above all c.args.id _ _ (rise all c.range.ensures.ordered) (sym (c.range.ensures.between tt) ∙ c.in-Some.ensures.steps)

pub returns-in-None : goal.returns-in-None
returns-in-None c =
    let all = c.args.self.now.all.entries in
    none_above all c.args.id (rise all c.range.ensures.ordered) (sym (c.range.ensures.between tt) ∙ (c.in-None.ensures.steps).0)

-- The least id above another that has a place.
use Rattle.std.proofs.Common.{subst}
use Rattle.propagate.specs.Content.{Content, IsLeastAbove}
use Rattle.watch.proofs.LiveContent.{least_placed}
use Rattle.watch.proofs.watch_propagator.WatchPropagatorPropagator.after.Goals as goal

pub returns : goal.returns
returns c =
    let e = c.self.inside in
    subst (λ (m : Content). IsLeastAbove m c.args.id c.after.result) c.self.view_is (least_placed e.closure e.places e.ids.items c.args.id c.after.result c.self.invariant c.after.ensures)

-- Places that say nothing change no answer.
use Rattle.std.proofs.Common.{subst}
use Rattle.std.proofs.lemmas.Result.{IfOk-weaker}
use Rattle.std.specs.FinMap as map
use Rattle.propagate.specs.Content.{Content}
use Rattle.propagate.specs.Reach.{IsReach}
use Rattle.ledger.specs.Ledgers.{shown}
use Rattle.watch.proofs.LiveContent.{live_content}
use Rattle.watch.proofs.LiveOnes.{AddsNothing, live_reach}
use Rattle.watch.proofs.watch_propagator.WatchPropagatorPropagator.extend.Goals as goal

pub returns-clause-value : goal.returns-clause-value
returns-clause-value c =
    let e = c.self.inside in
    let live = subst (λ (m : Content). AddsNothing (shown e.closure) (map.values m)) c.self.view_is (live_content e.closure e.places e.ids.items c.self.invariant) in
    IfOk-weaker c.extend.result (IsReach (shown e.closure) c.args.given.now) (IsReach (map.values c.args.self.now) c.args.given.now)
    (λ r h. live_reach (shown e.closure) (map.values c.args.self.now) live c.args.given.now r h) c.extend.ensures.value

-- Places that say nothing change no answer.
use Rattle.std.proofs.Common.{◌↔◌, ◌++◌, IsTrue, subst}
use Rattle.std.proofs.lemmas.Result.{IfOk-weaker}
use Rattle.std.specs.FinMap as map
use Rattle.propagate.specs.Chain.{IsRefuted}
use Rattle.propagate.specs.Content.{Content}
use Rattle.ledger.specs.Ledgers.{shown}
use Rattle.watch.proofs.LiveContent.{live_content}
use Rattle.watch.proofs.LiveOnes.{AddsNothing, live_refuted}
use Rattle.watch.proofs.watch_propagator.WatchPropagatorPropagator.refute.Goals as goal

pub returns-clause-value : goal.returns-clause-value
returns-clause-value c =
    let e = c.self.inside in
    let live = subst (λ (m : Content). AddsNothing (shown e.closure) (map.values m)) c.self.view_is (live_content e.closure e.places e.ids.items c.self.invariant) in
    let same = live_refuted (shown e.closure) (map.values c.args.self.now) c.args.extras.now live in
    IfOk-weaker c.refute.result (λ yes. IsTrue yes ↔ IsRefuted (shown e.closure ++ c.args.extras.now))
    (λ yes. IsTrue yes ↔ IsRefuted (map.values c.args.self.now ++ c.args.extras.now))
    (λ yes h. (λ t. same.0 (h.0 t), λ r. h.1 (same.1 r))) c.refute.ensures.value

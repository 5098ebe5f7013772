-- A place of a chain has an id, since each constraint has one.
use Rattle.std.proofs.Common.{◌≡◌, ℕ, List, length, subst, sym}
use Rattle.std.proofs.lemmas.Result.{IfOk-weaker}
use Rattle.propagate.specs.Content.{Content, AreDecided}
use Rattle.watch.specs.Named.{AreNamed, content_at}
use Rattle.watch.proofs.watch_propagator.WatchPropagatorPropagator.trace_each.Goals as goal

pub trace_each-requires-clause-ids : goal.trace_each-requires-clause-ids
trace_each-requires-clause-ids c = subst (λ (ids : List ℕ). length ids ≡ length c.self.inside.closure) (sym c.as_slice.ensures.value) c.self.invariant.as_many

pub returns-clause-decided : goal.returns-clause-decided
returns-clause-decided c =
    let e = c.self.inside in
    let before = c.args.before.now in
    let ids = c.as_slice.result.now in
    IfOk-weaker c.trace_each.result (λ v. (places : List (ℕ × ℕ)) → AreNamed places ids e.closure → AreDecided (content_at e.closure places) before v.items) (λ v. AreDecided c.args.self.now before v.items)
    (λ v h. subst (λ (m : Content). AreDecided m before v.items) c.self.view_is
    (h e.places (subst (λ (ks : List ℕ). AreNamed e.places ks e.closure) (sym c.as_slice.ensures.value) c.self.invariant))) c.trace_each.ensures.decided

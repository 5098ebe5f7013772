-- The ids of places are those under which the constraints stand.
use Rattle.std.proofs.Common.{ℕ, List, sym, subst}
use Rattle.std.proofs.lemmas.Result.{IfOk-weaker}
use Rattle.propagate.specs.Content.{AddsOccurrences, Content}
use Rattle.propagate.specs.Ids.{IdSet}
use Rattle.watch.specs.Named.{AreNamed, content_at}
use Rattle.watch.proofs.watch_propagator.WatchPropagatorPropagator.with_occurrences.Goals as goal

pub returns-clause-added : goal.returns-clause-added
returns-clause-added c =
    let e = c.self.inside in
    let named : AreNamed e.places c.as_slice.result.now e.closure = subst (λ (ids : List ℕ). AreNamed e.places ids e.closure) (sym c.as_slice.ensures.value) c.self.invariant in
    IfOk-weaker c.with_occurrences.result
    (λ (all : IdSet). (places : List (ℕ × ℕ)) → AreNamed places c.as_slice.result.now e.closure → AddsOccurrences (content_at e.closure places) c.args.literal c.args.ids all)
    (AddsOccurrences c.args.self.now c.args.literal c.args.ids)
    (λ all added. subst (λ (m : Content). AddsOccurrences m c.args.literal c.args.ids all) c.self.view_is (added e.places named))
    c.with_occurrences.ensures.added

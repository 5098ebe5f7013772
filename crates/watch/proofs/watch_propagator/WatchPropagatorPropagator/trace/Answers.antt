-- A chain by places is told by ids.
use Rattle.std.proofs.Common.{◌<◌, ℕ, All, IfSome, List, length, subst, sym}
use Rattle.std.proofs.lemmas.Result.{IfOk-weaker}
use Rattle.propagate.specs.Content.{Content, IsTrace}
use Rattle.watch.specs.Steps.{IsTraceOf}
use Rattle.watch.proofs.NamedChains.{falsified_place_named, places_named, trace_named}
use Rattle.watch.proofs.watch_propagator.WatchPropagatorPropagator.trace.Goals as goal

pub trace_of-requires-clause-steps : goal.trace_of-requires-clause-steps
trace_of-requires-clause-steps c =
    let e = c.self.inside in
    let chain = c.in_ok-chain.chain in
    subst (λ (ids : List ℕ). All (λ s. s.place < length ids) chain.steps.items) (sym c.as_slice.ensures.value)
    (places_named e.closure e.places e.ids.items c.args.given.now chain c.self.invariant c.in_ok-chain.ensures.value)

pub trace_of-requires-clause-falsified : goal.trace_of-requires-clause-falsified
trace_of-requires-clause-falsified c =
    let e = c.self.inside in
    let chain = c.in_ok-chain.chain in
    subst (λ (ids : List ℕ). IfSome chain.falsified (λ place. place < length ids)) (sym c.as_slice.ensures.value)
    (falsified_place_named e.closure e.places e.ids.items c.args.given.now chain c.self.invariant c.in_ok-chain.ensures.value)

pub returns-clause-value : goal.returns-clause-value
returns-clause-value c =
    let e = c.self.inside in
    let chain = c.in_ok-chain.chain in
    let ids = c.as_slice.result.now in
    IfOk-weaker c.trace_of.result (IsTraceOf ids chain) (IsTrace c.args.self.now c.args.given.now)
    (λ t h. subst (λ (m : Content). IsTrace m c.args.given.now t) c.self.view_is
    (trace_named e.closure e.places e.ids.items c.args.given.now chain t c.self.invariant c.in_ok-chain.ensures.value
    (subst (λ (ks : List ℕ). IsTraceOf ks chain t) c.as_slice.ensures.value h))) c.trace_of.ensures

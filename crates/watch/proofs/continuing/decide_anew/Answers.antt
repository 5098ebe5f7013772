-- A whole trace leaves nothing out.
use Rattle.std.proofs.Common.{◌≡◌, ◌∙◌, [], ◌∷◌, ℕ, List, sym, subst}
use Rattle.std.proofs.lemmas.Result.{IfOk-weaker}
use Rattle.propagate.specs.declared.trace.Decided.{Decided}
use Rattle.propagate.specs.Content.{AreDecided}
use Rattle.propagate.proofs.LastTraced.{whole_last}
use Rattle.watch.specs.Named.{AreNamed, content_at}
use Rattle.watch.proofs.NamedChains.{falsified_place_below, places_below, trace_named}
use Rattle.watch.proofs.continuing.decide_anew.Goals as goal

pub trace_of-requires-clause-steps : goal.trace_of-requires-clause-steps
trace_of-requires-clause-steps c =
    places_below c.args.ledger.now.slots c.args.ids.now c.as_slice.result.now c.in_ok-chain.chain c.requires.ids c.in_ok-chain.ensures.value

pub trace_of-requires-clause-falsified : goal.trace_of-requires-clause-falsified
trace_of-requires-clause-falsified c =
    falsified_place_below c.args.ledger.now.slots c.args.ids.now c.as_slice.result.now c.in_ok-chain.chain c.requires.ids c.in_ok-chain.ensures.value

pub returns-clause-decided : goal.returns-clause-decided
returns-clause-decided c =
    let slots = c.args.ledger.now.slots in
    let before = c.args.before.now in
    let last = c.args.last in
    let ids = c.args.ids.now in
    let t = c.in_ok-trace_of.field-0 in
    let one : Decided = record { literal = last; trace = t } in
    IfOk-weaker c.decided_alone.result (λ v. v.items ≡ one ∷ []) (λ v. (places : List (ℕ × ℕ)) → AreNamed places ids slots → AreDecided (content_at slots places) before v.items)
    (λ v h places named. subst (λ (ds : List Decided). AreDecided (content_at slots places) before ds) (sym h)
    (c.requires.consistent, whole_last (content_at slots places) before c.as_slice.result.now last t (c.as_slice.ensures.value ∙ c.in_ok-given.ensures) (trace_named slots places ids c.as_slice.result.now c.in_ok-chain.chain t named c.in_ok-chain.ensures.value c.in_ok-trace_of.ensures), tt)) c.decided_alone.ensures

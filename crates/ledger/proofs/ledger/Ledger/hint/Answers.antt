-- What the two literals tell is so of the clause that they watch.
use Rattle.std.proofs.Common.{◌≡◌, ◌<◌, None, Some, get_or, length, ap, sym, subst, ◌∙◌, arith}
use Rattle.normal_form.specs.Normal.{NormalConstraint}
use Rattle.ledger.specs.declared.pair.Pair.{Pair}
use Rattle.ledger.specs.Hints.{IsHint}
use Rattle.ledger.specs.Ledgers.{State, constraint_at, constraint_in, shown}
use Rattle.ledger.proofs.LastLiteral.{hint_holds}
use Rattle.ledger.proofs.Standing.{normal_there, shown_at, some_at}
use Rattle.ledger.proofs.WatchedQuiet.{whole}
use Rattle.ledger.proofs.ledger.Ledger.hint.Goals as goal

pub returns-in-Some-pair-clause-value : goal.returns-in-Some-pair-clause-value
returns-in-Some-pair-clause-value c =
    let e = c.self.inside in
    let n : NormalConstraint = c.in-Some.field-0 in
    let p : Pair = c.in-Some-pair.pair in
    let low : c.args.place < length e.slots.items = omega (arith, c.requires, ap (λ (s : State). length s.slots) c.self.view_is) in
    let there = some_at e.slots.items c.args.place c.index.result.now n low c.index.ensures c.in-Some.is in
    let shows : constraint_at (shown e.slots.items) c.args.place ≡ n = shown_at e.slots.items c.args.place ∙ ap constraint_in there in
    let at : get_or e.watchers.pairs c.args.place None ≡ Some p = sym c.pair.ensures ∙ c.in-Some-pair.is in
    let watched = c.self.invariant.3.each c.args.place n p there at in
    let rises = (normal_there e.slots.items e.trail.0 e.trail.1 e.table e.clauses e.counters.items e.limits.items e.watchers.pairs c.args.place n c.self.invariant.0 low there).rises in
    let holds : IsHint e.trail.0 n c.hint_of.result = hint_holds e.trail.0 n p c.hint_of.result c.reveal.ensures.consistent rises watched.of_it (whole e.trail.0 n p watched.tell) c.hint_of.ensures.value in
    subst (λ (s : State). IsHint s.propagated (constraint_at (shown s.slots) c.args.place) c.hint_of.result) c.self.view_is
    (subst (λ (m : NormalConstraint). IsHint e.trail.0 m c.hint_of.result) (sym shows) holds)

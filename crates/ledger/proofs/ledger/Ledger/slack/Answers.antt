-- The open sum less the degree.
use Rattle.std.proofs.Common.{◌≡◌, ◌<◌, length, ap, sym, ◌∙◌, arith}
use Rattle.normal_form.specs.Normal.{NormalConstraint}
use Rattle.ledger.specs.Ledgers.{State, constraint_at, constraint_in, shown}
use Rattle.ledger.proofs.Standing.{shown_at, slack_said, some_at}
use Rattle.ledger.proofs.ledger.Ledger.slack.Goals as goal

pub returns-in-Some : goal.returns-in-Some
returns-in-Some c =
    let e = c.self.inside in
    let n : NormalConstraint = c.in-Some.constraint in
    let low : c.args.place < length e.slots.items = omega (arith, c.requires, ap (λ (s : State). length s.slots) c.self.view_is) in
    let there = some_at e.slots.items c.args.place c.index.result.now n low c.index.ensures c.in-Some.is in
    let shows : constraint_at (shown c.args.self.now.slots) c.args.place ≡ n = ap (λ (s : State). constraint_at (shown s.slots) c.args.place) (sym c.self.view_is) ∙ shown_at e.slots.items c.args.place ∙ ap constraint_in there in
    slack_said c.checked_sub.result c.args.self.now.propagated n (constraint_at (shown c.args.self.now.slots) c.args.place) c.open.result c.degree.result c.checked_sub.ensures c.open.ensures c.degree.ensures.value shows

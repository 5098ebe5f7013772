-- The counter of a constraint that is counted is its open sum.
use Rattle.std.proofs.Common.{◌≡◌, ℕ, List, None, Some, get_or, ap, sym, ◌∙◌}
use Rattle.ledger.specs.Ledgers.{State, open_sum}
use Rattle.ledger.proofs.Standing.{all_within, counter_there}
use Rattle.ledger.proofs.ledger.Ledger.open.Goals as goal

pub open_sum-requires : goal.open_sum-requires
open_sum-requires c =
    let e = c.self.inside in
    let there : get_or e.slots.items c.args.place None ≡ Some c.args.constraint.now = ap (λ (s : State). get_or s.slots c.args.place None) c.self.view_is ∙ c.requires in
    all_within e.slots.items e.trail.0 e.trail.1 e.table e.clauses e.counters.items e.limits.items e.watchers.pairs c.self.invariant.0 c.args.place c.args.constraint.now there

pub returns-in-None : goal.returns-in-None
returns-in-None c =
    let e = c.self.inside in
    let there : get_or e.slots.items c.args.place None ≡ Some c.args.constraint.now = ap (λ (s : State). get_or s.slots c.args.place None) c.self.view_is ∙ c.requires in
    counter_there e.slots.items e.trail.0 e.trail.1 e.table e.clauses e.counters.items e.limits.items e.watchers.pairs c.args.place c.number_at.result c.args.constraint.now c.self.invariant.0 there (sym c.pair.ensures ∙ c.in-None.is) (c.number_at.ensures ∙ ap (λ (ns : List ℕ). get_or ns c.args.place 0) c.as_slice.ensures.value)
    ∙ ap (λ (s : State). open_sum s.propagated c.args.constraint.now) c.self.view_is

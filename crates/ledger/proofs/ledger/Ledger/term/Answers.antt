-- The term's variable is below the constraint's bound.
use Rattle.std.proofs.Common.{◌≡◌, ◌<◌, ◌≤◌, length, ap, subst, sym, ◌∙◌, arith}
use Rattle.normal_form.specs.declared.term.NormalTerm.{NormalTerm}
use Rattle.normal_form.specs.Normal.{NormalConstraint, Rises, variable_bound}
use Rattle.normal_form.proofs.Sums.{bound_at}
use Rattle.ledger.specs.Ledgers.{State, constraint_at, constraint_in, shown}
use Rattle.ledger.proofs.Standing.{normal_there, some_at, shown_at, variables_there}
use Rattle.ledger.proofs.ledger.Ledger.term.Goals as goal

pub returns-clause-variable : goal.returns-clause-variable
returns-clause-variable c =
    let e = c.self.inside in
    let low : c.args.place < length e.slots.items = omega (arith, c.requires.place, ap (λ (s : State). length s.slots) c.self.view_is) in
    let there = some_at e.slots.items c.args.place c.index.result.now c.in-Some.constraint low c.index.ensures c.in-Some.is in
    let within : variable_bound c.in-Some.constraint.terms ≤ e.trail.1 = variables_there e.slots.items e.trail.0 e.trail.1 e.table e.clauses e.counters.items e.limits.items e.watchers.pairs c.args.place c.in-Some.constraint c.self.invariant.0 low there in
    let shows : constraint_at (shown c.args.self.now.slots) c.args.place ≡ c.in-Some.constraint = ap (λ (s : State). constraint_at (shown s.slots) c.args.place) (sym c.self.view_is) ∙ shown_at e.slots.items c.args.place ∙ ap constraint_in there in
    let inside : c.args.index < length c.in-Some.constraint.terms = omega (arith, c.requires.index, ap (λ (n : NormalConstraint). length n.terms) shows) in
    omega (arith, within, bound_at c.in-Some.constraint.terms c.args.index c.term.result inside, ap (λ (t : NormalTerm). t.var.0) c.term.ensures.value, ap (λ (s : State). s.variables) c.self.view_is)

pub returns-clause-rises : goal.returns-clause-rises
returns-clause-rises c =
    let e = c.self.inside in
    let n : NormalConstraint = c.in-Some.constraint in
    let low : c.args.place < length e.slots.items = omega (arith, c.requires.place, ap (λ (s : State). length s.slots) c.self.view_is) in
    let there = some_at e.slots.items c.args.place c.index.result.now n low c.index.ensures c.in-Some.is in
    let shows : constraint_at (shown c.args.self.now.slots) c.args.place ≡ n = ap (λ (s : State). constraint_at (shown s.slots) c.args.place) (sym c.self.view_is) ∙ shown_at e.slots.items c.args.place ∙ ap constraint_in there in
    subst (λ (m : NormalConstraint). Rises 0 m.terms) (sym shows)
    (normal_there e.slots.items e.trail.0 e.trail.1 e.table e.clauses e.counters.items e.limits.items e.watchers.pairs c.args.place n c.self.invariant.0 low there).rises

-- What the constraint of the place forces is assigned, with its reasons.
use Rattle.std.proofs.Common.{◌≡◌, ◌+◌, ◌<◌, ℕ, Option, List, [], length, get_or, ap, sym, subst, ◌∙◌, arith}
use Rattle.linear.specs.declared.term.Lit.{Lit}
use Rattle.normal_form.specs.Normal.{NormalConstraint}
use Rattle.propagate.specs.Walk.{IsQuiet}
use Rattle.ledger.specs.Forcing.{IsForcedOn}
use Rattle.ledger.specs.Ledgers.{State, constraint_at, constraint_in, open_sum, shown}
use Rattle.ledger.specs.Orders.{ArePassed, IsDecreasing}
use Rattle.trail.specs.Trails.{on_trail}
use Rattle.ledger.proofs.ForcedLiterals.{forced_none, reasons_on}
use Rattle.ledger.proofs.PlacedOrders.{orders_passed}
use Rattle.ledger.proofs.Standing.{shown_at, some_at, variables_there}
use Rattle.ledger.proofs.ledger.Ledger.force.Goals as goal

pub returns-in_default-clause-forced : goal.returns-in_default-clause-forced
returns-in_default-clause-forced c = forced_none (constraint_at (shown c.args.self.now.slots) c.args.place) c.args.place c.args.self.now.assigned c.args.self.now.reasons

pub force_terms-passed-requires-clause-order : goal.force_terms-passed-requires-clause-order
force_terms-passed-requires-clause-order c =
    let e = c.self.inside in
    let n : NormalConstraint = c.in-Some.constraint in
    let inside : c.args.place < length e.slots.items = omega (arith, c.requires.place, ap (λ (s : State). length s.slots) c.self.view_is) in
    let there = some_at e.slots.items c.args.place c.index.result.now n inside c.index.ensures c.in-Some.is in
    subst (IsDecreasing n.terms) (sym c.order.ensures) (c.self.invariant.4 c.args.place n there).0

pub force_terms-passed-requires-clause-passed : goal.force_terms-passed-requires-clause-passed
force_terms-passed-requires-clause-passed c =
    let e = c.self.inside in
    let n : NormalConstraint = c.in-Some.constraint in
    let inside : c.args.place < length e.slots.items = omega (arith, c.requires.place, ap (λ (s : State). length s.slots) c.self.view_is) in
    let there = some_at e.slots.items c.args.place c.index.result.now n inside c.index.ensures c.in-Some.is in
    subst (λ (o : List ℕ). ArePassed n.terms o (on_trail e.trail) c.passed.result) (sym c.order.ensures)
    (subst (ArePassed n.terms (get_or e.orders.orders c.args.place []) (on_trail e.trail)) (sym c.passed.ensures) (c.self.invariant.4 c.args.place n there).1)

pub force_terms-passed-requires-clause-slack : goal.force_terms-passed-requires-clause-slack
force_terms-passed-requires-clause-slack c =
    let e = c.self.inside in
    let n : NormalConstraint = c.in-Some.constraint in
    let inside : c.args.place < length e.slots.items = omega (arith, c.requires.place, ap (λ (s : State). length s.slots) c.self.view_is) in
    let there = some_at e.slots.items c.args.place c.index.result.now n inside c.index.ensures c.in-Some.is in
    let shows : constraint_at (shown e.slots.items) c.args.place ≡ n = shown_at e.slots.items c.args.place ∙ ap constraint_in there in
    let has = subst (λ (s : State). open_sum s.assigned (constraint_at (shown s.slots) c.args.place) ≡ (constraint_at (shown s.slots) c.args.place).degree + c.args.slack) (sym c.self.view_is) c.requires.slack in
    subst (λ (m : NormalConstraint). open_sum (on_trail e.trail) m ≡ m.degree + c.args.slack) shows has

pub force_terms-passed-requires-clause-variables : goal.force_terms-passed-requires-clause-variables
force_terms-passed-requires-clause-variables c =
    let e = c.self.inside in
    let n : NormalConstraint = c.in-Some.constraint in
    let inside : c.args.place < length e.slots.items = omega (arith, c.requires.place, ap (λ (s : State). length s.slots) c.self.view_is) in
    let there = some_at e.slots.items c.args.place c.index.result.now n inside c.index.ensures c.in-Some.is in
    variables_there e.slots.items e.trail.0 e.trail.1 e.table e.clauses e.counters.items e.limits.items e.watchers.pairs c.args.place n c.self.invariant.0 inside there

pub invariant_of-self : goal.invariant_of-self
invariant_of-self c =
    let e = c.self.inside in
    let n : NormalConstraint = c.in-Some.constraint in
    let f = c.force_terms-passed.ensures in
    let new = c.force_terms-passed.new in
    let inside : c.args.place < length e.slots.items = omega (arith, c.requires.place, ap (λ (s : State). length s.slots) c.self.view_is) in
    let there = some_at e.slots.items c.args.place c.index.result.now n inside c.index.ensures c.in-Some.is in (
      (rw (f.propagated, f.count) c.self.invariant.0),
      reasons_on e.slots.items c.args.place n (on_trail e.trail) (on_trail new.trail) e.reasons.items new.reasons.items inside there c.self.invariant.1 f.forced,
      omega (arith, c.self.invariant.2, f.count, f.capacity),
      (rw (f.propagated, f.count) c.self.invariant.3),
      orders_passed e.slots.items c.args.place n (on_trail e.trail) (on_trail new.trail) f.forced.literals e.orders c.pass.new.self c.force_terms-passed.result there c.self.invariant.4 f.forced.longer c.pass.ensures.orders c.pass.ensures.others c.pass.ensures.most (subst (λ (o : List ℕ). ArePassed n.terms o (on_trail new.trail) c.force_terms-passed.result) c.order.ensures f.passed),
    )

same_state : (slots others : List (Option NormalConstraint)) (xs ps qs : List Lit) (rs : List (Option ℕ)) (v w m n : ℕ) → slots ≡ others → ps ≡ qs → v ≡ w → m ≡ n
    → ◌≡◌ {A = State} (record { slots = slots; assigned = xs; propagated = ps; reasons = rs; variables = v; listed = m }) (record { slots = others; assigned = xs; propagated = qs; reasons = rs; variables = w; listed = n })
same_state slots others xs ps qs rs v w m n a b c d = cc

pub returns-clause-same : goal.returns-clause-same
returns-clause-same c =
    let e = c.self.inside in
    let old = c.args.self.now in
    let f = c.force_terms-passed.ensures in
    let new = c.force_terms-passed.new in
    same_state e.slots.items old.slots (on_trail new.trail) new.trail.0 old.propagated new.reasons.items new.trail.1 old.variables e.clauses.count old.listed
    (ap (λ (s : State). s.slots) c.self.view_is) (f.propagated ∙ ap (λ (s : State). s.propagated) c.self.view_is) (f.count ∙ ap (λ (s : State). s.variables) c.self.view_is) (ap (λ (s : State). s.listed) c.self.view_is)

pub returns-clause-forced : goal.returns-clause-forced
returns-clause-forced c =
    let e = c.self.inside in
    let n : NormalConstraint = c.in-Some.constraint in
    let new = c.force_terms-passed.new in
    let inside : c.args.place < length e.slots.items = omega (arith, c.requires.place, ap (λ (s : State). length s.slots) c.self.view_is) in
    let there = some_at e.slots.items c.args.place c.index.result.now n inside c.index.ensures c.in-Some.is in
    let shows : constraint_at (shown e.slots.items) c.args.place ≡ n = shown_at e.slots.items c.args.place ∙ ap constraint_in there in
    subst (λ (s : State). IsForcedOn (constraint_at (shown s.slots) c.args.place) c.args.place s.assigned s.reasons (on_trail new.trail) new.reasons.items) c.self.view_is
    (subst (λ (m : NormalConstraint). IsForcedOn m c.args.place (on_trail e.trail) e.reasons.items (on_trail new.trail) new.reasons.items) (sym shows) c.force_terms-passed.ensures.forced)

pub returns-clause-quiet : goal.returns-clause-quiet
returns-clause-quiet c =
    let e = c.self.inside in
    let n : NormalConstraint = c.in-Some.constraint in
    let new = c.force_terms-passed.new in
    let inside : c.args.place < length e.slots.items = omega (arith, c.requires.place, ap (λ (s : State). length s.slots) c.self.view_is) in
    let there = some_at e.slots.items c.args.place c.index.result.now n inside c.index.ensures c.in-Some.is in
    let shows : constraint_at (shown e.slots.items) c.args.place ≡ n = shown_at e.slots.items c.args.place ∙ ap constraint_in there in
    subst (λ (s : State). IsQuiet (on_trail new.trail) (constraint_at (shown s.slots) c.args.place)) c.self.view_is
    (subst (λ (m : NormalConstraint). IsQuiet (on_trail new.trail) m) (sym shows) c.force_terms-passed.ensures.quiet)

-- A place that is empty or counted is passed over, and a clause that is watched is listed.
use Rattle.std.proofs.Common.{◌≡◌, ◌<◌, ℕ, List, Option, Some, None, true, false, is_some, length, get_or, refl, inl, inr, ap, sym, subst, ◌∙◌, arith}
use Rattle.std.proofs.lemmas.List.{get_or_default}
use Rattle.normal_form.specs.Normal.{NormalConstraint}
use Rattle.ledger.specs.declared.pair.Pair.{Pair}
use Rattle.ledger.specs.Ledgers.{State}
use Rattle.ledger.proofs.Attaching.{listed_kept, listed_on, passed_over}
use Rattle.ledger.proofs.Standing.{variables_there}
use Rattle.ledger.proofs.ledger.Ledger.list_next.Goals as goal

unpaired : (o : Option Pair) → is_some o ≡ false → o ≡ None
unpaired None e = refl
unpaired (Some p) e = cc

with_pair : (o : Option Pair) → is_some o ≡ true → (p : Pair) × (o ≡ Some p)
with_pair None e = cc
with_pair (Some p) e = (p, refl)

-- what stands at the next place
slot_at : (slots : List (Option NormalConstraint)) (place count : ℕ) (o : Option NormalConstraint) → place ≡ count → count < length slots → o ≡ get_or slots place o → get_or slots count None ≡ o
slot_at slots place count o e low is = get_or_default slots count None o low ∙ ap (λ (k : ℕ). get_or slots k o) (sym e) ∙ sym is

pub invariant_of-self : goal.invariant_of-self
invariant_of-self c =
    let e = c.self.inside in
    let low : e.clauses.count < length e.slots.items = subst (λ (s : State). s.listed < length s.slots) (sym c.self.view_is) c.requires in
    let there : get_or e.slots.items e.clauses.count None ≡ None = slot_at e.slots.items c.count-place.result e.clauses.count c.index.result.now c.count-place.ensures low c.index.ensures ∙ c.in_default.is in (
      passed_over e.slots.items e.trail.0 e.trail.1 e.table e.clauses c.pass_over.new.self e.counters.items e.limits.items e.watchers.pairs c.self.invariant.0 (inl there) low c.pass_over.ensures,
      c.self.invariant.1,
      c.self.invariant.2,
      c.self.invariant.3,
      c.self.invariant.4,
    )

pub invariant_of-self-then-is_none : goal.invariant_of-self-then-is_none
invariant_of-self-then-is_none c =
    let e = c.self.inside in
    let low : e.clauses.count < length e.slots.items = subst (λ (s : State). s.listed < length s.slots) (sym c.self.view_is) c.requires in
    let alone : get_or e.watchers.pairs e.clauses.count None ≡ None = ap (λ (k : ℕ). get_or e.watchers.pairs k None) (sym c.count-place.ensures) ∙ sym c.pair.ensures ∙ unpaired c.pair.result c.if-is_none.ensures in (
      passed_over e.slots.items e.trail.0 e.trail.1 e.table e.clauses c.pass_over-then-is_none.new.self e.counters.items e.limits.items e.watchers.pairs c.self.invariant.0 (inr alone) low c.pass_over-then-is_none.ensures,
      c.self.invariant.1,
      c.self.invariant.2,
      c.self.invariant.3,
      c.self.invariant.4,
    )

pub enter-requires-clause-table : goal.enter-requires-clause-table
enter-requires-clause-table c =
    let e = c.self.inside in
    let low : e.clauses.count < length e.slots.items = subst (λ (s : State). s.listed < length s.slots) (sym c.self.view_is) c.requires in
    let there : get_or e.slots.items e.clauses.count None ≡ Some c.in-Some.constraint = slot_at e.slots.items c.count-place.result e.clauses.count c.index.result.now c.count-place.ensures low c.index.ensures ∙ c.in-Some.is in
    omega (arith, variables_there e.slots.items e.trail.0 e.trail.1 e.table e.clauses e.counters.items e.limits.items e.watchers.pairs e.clauses.count c.in-Some.constraint c.self.invariant.0 low there, c.self.invariant.0.watched_index.index.size)

pub invariant_of-self-in_err-enter : goal.invariant_of-self-in_err-enter
invariant_of-self-in_err-enter c =
    let e = c.self.inside in
    let said = c.in_err-enter.ensures in (
      listed_kept e.slots.items e.trail.0 e.trail.1 e.table e.clauses c.enter.new.self e.counters.items e.limits.items e.watchers.pairs c.self.invariant.0 said.same said.length said.err,
      c.self.invariant.1,
      c.self.invariant.2,
      c.self.invariant.3,
      c.self.invariant.4,
    )

pub invariant_of-self-2 : goal.invariant_of-self-2
invariant_of-self-2 c =
    let e = c.self.inside in
    let low : e.clauses.count < length e.slots.items = subst (λ (s : State). s.listed < length s.slots) (sym c.self.view_is) c.requires in
    let there : get_or e.slots.items e.clauses.count None ≡ Some c.in-Some.constraint = slot_at e.slots.items c.count-place.result e.clauses.count c.index.result.now c.count-place.ensures low c.index.ensures ∙ c.in-Some.is in
    let two = with_pair c.pair.result c.if-is_none.ensures in
    let watched : get_or e.watchers.pairs e.clauses.count None ≡ Some two.0 = ap (λ (k : ℕ). get_or e.watchers.pairs k None) (sym c.count-place.ensures) ∙ sym c.pair.ensures ∙ two.1 in
    let said = c.in_ok-enter.ensures in (
      listed_on e.slots.items e.trail.0 e.trail.1 e.table e.clauses c.enter.new.self e.counters.items e.limits.items e.watchers.pairs c.in-Some.constraint two.0 c.self.invariant.0 there watched low said.next said.length said.ok,
      c.self.invariant.1,
      c.self.invariant.2,
      c.self.invariant.3,
      c.self.invariant.4,
    )

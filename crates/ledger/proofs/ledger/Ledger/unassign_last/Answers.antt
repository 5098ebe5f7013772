-- The entries of the opposite literal say by how much the counters rise.
use Rattle.std.proofs.Common.{◌≡◌, ◌-◌, ℕ, Bool, true, false, List, length, take, refl, ap, sym, subst, ◌∙◌, arith}
use Rattle.std.proofs.lemmas.Bool.{false≢true}
use Rattle.linear.specs.declared.term.Lit.{Lit}
use Rattle.linear.specs.Literal.{opposite}
use Rattle.ledger.specs.Ledgers.{AreCounters, AreReasons, shown}
use Rattle.trail.specs.Trails.{on_trail}
use Rattle.occurrences.specs.Rows.{all_in}
use Rattle.trail.proofs.AssignedLiterals.{last_counted, unset_first}
use Rattle.ledger.proofs.Standing.{entries, entries_counted, room, counted_back, recounted}
use Rattle.ledger.proofs.FallingRows.{kinds_same}
use Rattle.ledger.proofs.PlacedOrders.{orders_anew}
use Rattle.ledger.proofs.Reasons.{reasons_pop}
use Rattle.ledger.proofs.WatchedQuiet.{watched_back}
use Rattle.ledger.proofs.ledger.Ledger.unassign_last.Goals as goal

pub raise-requires-clause-places : goal.raise-requires-clause-places
raise-requires-clause-places c =
    let e = c.self.inside in
    let i = c.self.invariant.0 in
    entries_counted i.counted e.trail.0 e.trail.1 e.table e.counters.items (opposite c.in_ok-literal.literal) c.opposite.result c.code.result (all_in c.row.result) i.index i.counters_are c.opposite.ensures c.code.ensures c.row.ensures

pub raise-requires-clause-room : goal.raise-requires-clause-room
raise-requires-clause-room c =
    let e = c.self.inside in
    let i = c.self.invariant.0 in
    let l : Lit = c.in_ok-literal.literal in
    let none = c.is_propagated-counted.ensures.0 c.if-counted.true in
    let last = last_counted e.trail c.pop.new.self l none (c.pop.ensures.last none) c.in_ok-literal.ensures.value in
    let given = entries i.counted e.trail.1 e.table l c.opposite.result c.code.result (all_in c.row.result) i.index c.opposite.ensures c.code.ensures c.row.ensures in
    let a = subst (λ (xs : List Lit). AreCounters i.counted xs e.counters.items) last i.counters_are in
    room i.counted e.trail.1 c.pop.new.self.0 e.counters.items l (all_in c.row.result) i.known a given (unset_first c.pop.new.self l c.in_ok-literal.ensures.unset)

pub invariant_of-self : goal.invariant_of-self
invariant_of-self c = rw c.in_err-literal.ensures.value.1 c.self.invariant

pub invariant_of-self-then-counted : goal.invariant_of-self-then-counted
invariant_of-self-then-counted c =
    let e = c.self.inside in
    let i = c.self.invariant.0 in
    let l : Lit = c.in_ok-literal.literal in
    let none = c.is_propagated-counted.ensures.0 c.if-counted.true in
    let last = last_counted e.trail c.pop.new.self l none (c.pop.ensures.last none) c.in_ok-literal.ensures.value in
    let given = entries i.counted e.trail.1 e.table l c.opposite.result c.code.result (all_in c.row.result) i.index c.opposite.ensures c.code.ensures c.row.ensures in
    let a = subst (λ (xs : List Lit). AreCounters i.counted xs e.counters.items) last i.counters_are in
    let reasons = reasons_pop (shown e.slots.items) (on_trail c.pop.new.self) e.reasons.items l (subst (λ (xs : List Lit). AreReasons (shown e.slots.items) xs e.reasons.items) c.in_ok-literal.ensures.value c.self.invariant.1) in
    let rest : c.pop-2.new.self.items ≡ take (length e.reasons.items - 1) e.reasons.items = c.pop-2.ensures.rest ∙ ap (λ (n : ℕ). take (n - 1) e.reasons.items) (omega (arith, e.reasons.ok)) in (
      recounted e.slots.items e.trail.0 c.pop.new.self.0 e.trail.1 c.pop.new.self.1 e.table e.clauses e.counters.items c.raise.new.counters.items e.limits.items e.watchers.pairs e.watchers.pairs i c.pop.ensures.count
          (counted_back i.counted c.pop.new.self.0 e.counters.items c.raise.new.counters.items l (all_in c.row.result) a given (unset_first c.pop.new.self l c.in_ok-literal.ensures.unset) c.raise.ensures.length c.raise.ensures.raised) c.raise.ensures.length (kinds_same e.watchers.pairs e.watchers.pairs refl),
      (rw rest reasons),
      omega (arith, c.self.invariant.2, c.pop-2.ensures.capacity, c.pop.ensures.count),
      (rw c.pop.ensures.count (watched_back e.slots.items e.trail.0 c.pop.new.self.0 e.trail.1 e.watchers l last c.self.invariant.3)),
      orders_anew e.slots.items (on_trail e.trail) (on_trail c.pop.new.self) e.orders c.forget_passed.new.self c.self.invariant.4 c.forget_passed.ensures.orders c.forget_passed.ensures.none,
    )

pub invariant_of-self-else-counted : goal.invariant_of-self-else-counted
invariant_of-self-else-counted c =
    let e = c.self.inside in
    let l : Lit = c.in_ok-literal.literal in
    let pending : c.pop.new.self.0 ≡ e.trail.0 = c.pop.ensures.pending (λ none. not_both c.is_propagated-counted.result c.if-counted.false (c.is_propagated-counted.ensures.1 none)) in
    let reasons = reasons_pop (shown e.slots.items) (on_trail c.pop.new.self) e.reasons.items l (subst (λ (xs : List Lit). AreReasons (shown e.slots.items) xs e.reasons.items) c.in_ok-literal.ensures.value c.self.invariant.1) in
    let rest : c.pop-2.new.self.items ≡ take (length e.reasons.items - 1) e.reasons.items = c.pop-2.ensures.rest ∙ ap (λ (n : ℕ). take (n - 1) e.reasons.items) (omega (arith, e.reasons.ok)) in (
      (rw (pending, c.pop.ensures.count) c.self.invariant.0),
      (rw rest reasons),
      omega (arith, c.self.invariant.2, c.pop-2.ensures.capacity, c.pop.ensures.count),
      (rw (pending, c.pop.ensures.count) c.self.invariant.3),
      orders_anew e.slots.items (on_trail e.trail) (on_trail c.pop.new.self) e.orders c.forget_passed.new.self c.self.invariant.4 c.forget_passed.ensures.orders c.forget_passed.ensures.none,
    )
  where
    not_both : (b : Bool) → b ≡ false → b ≡ true → ⊥
    not_both b f t = false≢true (sym f ∙ t)

-- What the fallen literal watches is handled, and its entries say by how much the counters fall.
use Rattle.std.proofs.Common.{◌≡◌, ◌<◌, ◌≤◌, ◌⊎◌, inl, inr, ℕ, Contains, Option, List, [], ◌∷◌, ◌++◌, false, length, get_or, drop, ap, sym, subst, ◌∙◌, refl, arith}
use Rattle.linear.specs.declared.term.Lit.{Lit}
use Rattle.normal_form.specs.Normal.{NormalConstraint}
use Rattle.linear.specs.Literal.{opposite}
use Rattle.propagate.specs.Literals.{IsConsistent, coefficient_of, lists}
use Rattle.propagate.specs.Walk.{IsFalsifiedAt, IsQuiet}
use Rattle.ledger.specs.declared.pair.Pair.{Pair}
use Rattle.ledger.specs.Falls.{IsAt, IsFalsifiedThere}
use Rattle.trail.specs.Trails.{on_trail}
use Rattle.ledger.specs.Ledgers.{AreReasons, State, shown}
use Rattle.occurrences.specs.Occurrences.{share_of}
use Rattle.ledger.specs.Orders.{AreOrders}
use Rattle.occurrences.specs.Rows.{all_in}
use Rattle.ledger.proofs.Standing.{all_within, counter_of_share, each_kind, entries, entries_counted, enough, counted, parted_same, queued_there, recounted}
use Rattle.ledger.proofs.WatchedQuiet.{fallen_queued, fallen_watched}
use Rattle.trail.proofs.AssignedLiterals.{next_listed, next_open, same_assigned, whole_when}
use Rattle.ledger.proofs.FalsifiedClauses.{falsified_there, none_case, some_case}
use Rattle.ledger.proofs.ledger.Ledger.propagate_next.Goals as goal

pub next-requires : goal.next-requires
next-requires c none =
    let e = c.self.inside in
    c.requires.pending (sym (ap (λ (s : State). s.propagated) c.self.view_is) ∙ whole_when e.trail none ∙ ap (λ (s : State). s.assigned) c.self.view_is)

pub fall-requires-clause-within : goal.fall-requires-clause-within
fall-requires-clause-within c =
    let e = c.self.inside in
    rw c.as_slice.ensures.value (all_within e.slots.items e.trail.0 e.trail.1 e.table e.clauses e.counters.items e.limits.items e.watchers.pairs c.self.invariant.0)

pub fall-requires-clause-unfallen : goal.fall-requires-clause-unfallen
fall-requires-clause-unfallen c = next_open c.self.inside.trail.0 c.next.result c.opposite-fallen.result c.opposite-fallen.ensures c.next.ensures.unset

pub fall-requires-clause-falls : goal.fall-requires-clause-falls
fall-requires-clause-falls c = next_listed c.self.inside.trail c.next.result c.opposite-fallen.result c.next.ensures.first c.opposite-fallen.ensures

pub lower-requires-clause-places : goal.lower-requires-clause-places
lower-requires-clause-places c =
    let e = c.self.inside in
    let i = c.self.invariant.0 in
    entries_counted i.counted e.trail.0 e.trail.1 e.table e.counters.items (opposite c.next.result) c.opposite-fallen.result c.code.result (all_in c.row.result) i.index i.counters_are c.opposite-fallen.ensures c.code.ensures c.row.ensures

pub lower-requires-clause-enough : goal.lower-requires-clause-enough
lower-requires-clause-enough c =
    let e = c.self.inside in
    let i = c.self.invariant.0 in
    let given = entries i.counted e.trail.1 e.table c.next.result c.opposite-fallen.result c.code.result (all_in c.row.result) i.index c.opposite-fallen.ensures c.code.ensures c.row.ensures in
    enough i.counted e.trail.0 e.counters.items c.next.result (all_in c.row.result) i.counters_are given c.next.ensures.unset

pub invariant_of-self-then-is_some : goal.invariant_of-self-then-is_some
invariant_of-self-then-is_some c =
    let e = c.self.inside in
    let i = c.self.invariant.0 in (
      recounted e.slots.items e.trail.0 e.trail.0 e.trail.1 e.trail.1 e.table e.clauses e.counters.items e.counters.items e.limits.items e.watchers.pairs c.fall.new.self.pairs i refl i.counters_are refl c.fall.ensures.kinds,
      c.self.invariant.1,
      c.self.invariant.2,
      rw c.as_slice.ensures.value at c.fall.ensures.watched,
      c.self.invariant.4,
    )

abbrev Whole : Type 0
Whole = List Lit × ℕ × List Lit

pub invariant_of-self-2 : goal.invariant_of-self-2
invariant_of-self-2 c =
    let e = c.self.inside in
    let i = c.self.invariant.0 in
    let l : Lit = c.next.result in
    let next : c.advance.new.self ≡ (e.trail.0 ++ l ∷ [], e.trail.1, drop 1 e.trail.2) = c.advance.ensures l c.next.ensures.first in
    let same = same_assigned e.trail c.advance.new.self l c.next.ensures.first next in
    let given = entries i.counted e.trail.1 e.table l c.opposite-fallen.result c.code.result (all_in c.row.result) i.index c.opposite-fallen.ensures c.code.ensures c.row.ensures in
    let after = counted i.counted e.trail.0 e.counters.items c.lower.new.counters.items l (all_in c.row.result) i.counters_are given c.next.ensures.unset c.lower.ensures.length c.lower.ensures.lowered in
    let watched = rw c.as_slice.ensures.value at c.fall.ensures.watched in
    let handled = rw c.as_slice.ensures.value at (none_case _ _ c.in_ok-falsified.falsified (sym c.is_some.ensures ∙ c.if-is_some.false) c.in_ok-falsified.ensures.end) in (
      (rw next (recounted e.slots.items e.trail.0 (e.trail.0 ++ l ∷ []) e.trail.1 e.trail.1 e.table e.clauses e.counters.items c.lower.new.counters.items e.limits.items e.watchers.pairs c.fall.new.self.pairs i refl after c.lower.ensures.length c.fall.ensures.kinds)),
      subst (λ (xs : List Lit). AreReasons (shown e.slots.items) xs e.reasons.items) (sym same) c.self.invariant.1,
      omega (arith, c.self.invariant.2, ap (λ (w : Whole). w.1) next),
      (rw next (fallen_watched e.slots.items e.trail.0 e.trail.1 c.fall.new.self l c.opposite-fallen.result c.fall.new.queue.0 watched c.opposite-fallen.ensures handled)),
      subst (λ (xs : List Lit). AreOrders e.slots.items xs e.orders) (sym same) c.self.invariant.4,
    )

pub returns-then-is_some-clause-end : goal.returns-then-is_some-clause-end
returns-then-is_some-clause-end c =
    let e = c.self.inside in
    let end = rw c.as_slice.ensures.value at c.in_ok-falsified.ensures.end in
    let there : (k : ℕ) → IsFalsifiedThere e.slots.items e.trail k → (e.trail.0 ≡ c.args.self.now.propagated) × IsFalsifiedAt (shown c.args.self.now.slots) c.args.self.now.assigned k = λ k b. (
      ap (λ (s : State). s.propagated) c.self.view_is,
      subst (λ (s : State). IsFalsifiedAt (shown s.slots) s.assigned k) c.self.view_is (falsified_there e.slots.items e.trail k b),
    ) in
    some_case _ _ _ _ c.in_ok-falsified.falsified (sym c.is_some.ensures ∙ c.if-is_some.true) there end

same_state : (slots others : List (Option NormalConstraint)) (xs ys ps qs : List Lit) (rs ss : List (Option ℕ)) (v w m n : ℕ) → slots ≡ others → xs ≡ ys → ps ≡ qs → rs ≡ ss → v ≡ w → m ≡ n
    → ◌≡◌ {A = State} (record { slots = slots; assigned = xs; propagated = ps; reasons = rs; variables = v; listed = m }) (record { slots = others; assigned = ys; propagated = qs; reasons = ss; variables = w; listed = n })
same_state slots others xs ys ps qs rs ss v w m n a b c d e f = cc

pub returns-clause-same : goal.returns-clause-same
returns-clause-same c =
    let e = c.self.inside in
    let old = c.args.self.now in
    let l : Lit = c.next.result in
    let next : c.advance.new.self ≡ (e.trail.0 ++ l ∷ [], e.trail.1, drop 1 e.trail.2) = c.advance.ensures l c.next.ensures.first in
    same_state e.slots.items old.slots (on_trail c.advance.new.self) old.assigned c.advance.new.self.0 c.advance.new.self.0 e.reasons.items old.reasons c.advance.new.self.1 old.variables e.clauses.count old.listed
    (ap (λ (s : State). s.slots) c.self.view_is) (same_assigned e.trail c.advance.new.self l c.next.ensures.first next ∙ ap (λ (s : State). s.assigned) c.self.view_is) refl
    (ap (λ (s : State). s.reasons) c.self.view_is) (ap (λ (w : Whole). w.1) next ∙ ap (λ (s : State). s.variables) c.self.view_is) (ap (λ (s : State). s.listed) c.self.view_is)

pub returns-clause-end : goal.returns-clause-end
returns-clause-end c =
    let e = c.self.inside in
    let i = c.self.invariant.0 in
    let l : Lit = c.next.result in
    let queue : List ℕ = c.lower.new.queue.0 in
    let new : List Lit = e.trail.0 ++ l ∷ [] in
    let unset : lists e.trail.0 l ≡ false = c.next.ensures.unset in
    let given = entries i.counted e.trail.1 e.table l c.opposite-fallen.result c.code.result (all_in c.row.result) i.index c.opposite-fallen.ensures c.code.ensures c.row.ensures in
    let after = counted i.counted e.trail.0 e.counters.items c.lower.new.counters.items l (all_in c.row.result) i.counters_are given unset c.lower.ensures.length c.lower.ensures.lowered in
    let parted = parted_same e.slots.items i.counted i.watched e.watchers.pairs c.fall.new.self.pairs i.slots_are c.fall.ensures.kinds in
    let watched = rw c.as_slice.ensures.value at c.fall.ensures.watched in
    let handled = rw c.as_slice.ensures.value at (none_case _ _ c.in_ok-falsified.falsified (sym c.is_some.ensures ∙ c.if-is_some.false) c.in_ok-falsified.ensures.end) in
    let longer : c.advance.new.self.0 ≡ new = ap (λ (w : Whole). w.0) (c.advance.ensures l c.next.ensures.first) in
    let apart : IsConsistent new = subst IsConsistent longer c.reveal.ensures.consistent in
    let lowered = rw c.as_slice-3.ensures.value at c.lower.ensures.queued in
    let counts : (k : ℕ) → k < length i.counted → 0 < share_of k (all_in c.row.result) → (get_or e.limits.items k 0 ≤ get_or c.lower.new.counters.items k 0) ⊎ Contains queue k = λ k low some. lowered k (counter_of_share i.counted e.trail.0 e.counters.items (opposite l) (all_in c.row.result) k i.counters_are given low some) some in
    let watches : (k : ℕ) (n : NormalConstraint) (p : Pair) → IsAt e.slots.items c.fall.new.self.pairs k n p → 0 < coefficient_of n (opposite l) → IsQuiet new n ⊎ Contains queue k = λ k n p at some. elim (fallen_queued e.slots.items e.trail.0 e.trail.1 c.fall.new.self l c.opposite-fallen.result c.fall.new.queue.0 watched c.opposite-fallen.ensures handled apart unset k n p at some) [
      | inl quiet ↦ inl quiet
      | inr waits ↦ inr (c.lower.ensures.kept k waits)
    ] in
    let before = ap (λ (s : State). s.propagated) c.self.view_is in
    record {
      literal = l;
      longer = longer ∙ ap (λ (xs : List Lit). xs ++ l ∷ []) before;
      unset = ap (λ (xs : List Lit). lists xs l) (sym before) ∙ unset;
      queued = queued_there e.slots.items c.args.self.now.slots e.trail.0 c.advance.new.self.0 queue l (ap (λ (s : State). s.slots) c.self.view_is) longer
          (each_kind e.slots.items i.counted i.watched c.fall.new.self.pairs new c.lower.new.counters.items e.limits.items queue (opposite l) (all_in c.row.result) parted after i.limits_are given counts watches);
    }

-- The entries of the literal say where it is counted, and its row where it watches.
use Rattle.std.proofs.Common.{◌<◌, ◌≤◌, ℕ, ◌⊎◌, inl, inr, Contains, get_or, length, refl, subst, sym}
use Rattle.propagate.specs.Literals.{coefficient_of}
use Rattle.propagate.specs.Walk.{IsQuiet}
use Rattle.ledger.specs.Ledgers.{State, constraint_at, shown}
use Rattle.occurrences.specs.Occurrences.{share_of}
use Rattle.ledger.specs.Watched.{IsOpen}
use Rattle.occurrences.specs.Rows.{all_in}
use Rattle.ledger.proofs.EntryPlaces.{entries_at}
use Rattle.ledger.proofs.Standing.{each_kind, entries_counted}
use Rattle.ledger.proofs.WatchedQuiet.{last_queued}
use Rattle.ledger.proofs.ledger.Ledger.queue_places.Goals as goal

pub queue_below-requires-clause-places : goal.queue_below-requires-clause-places
queue_below-requires-clause-places c =
    let e = c.self.inside in
    let i = c.self.invariant.0 in
    rw c.as_slice.ensures.value (entries_counted i.counted e.trail.0 e.trail.1 e.table e.counters.items c.args.literal c.args.literal c.code.result (all_in c.row.result) i.index i.counters_are refl c.code.ensures c.row.ensures)

pub returns-clause-queued : goal.returns-clause-queued
returns-clause-queued c =
    let e = c.self.inside in
    let i = c.self.invariant.0 in
    let es = entries_at i.counted e.trail.1 e.table c.args.literal c.code.result (all_in c.row.result) i.index c.code.ensures c.row.ensures in
    let below = rw (c.as_slice.ensures.value, c.as_slice-2.ensures.value) at c.queue_below.ensures.queued in
    let kept = c.queue_last.ensures.kept in
    let unfallen : IsOpen e.trail.0 c.args.literal = subst (λ (s : State). IsOpen s.propagated c.args.literal) (sym c.self.view_is) c.requires.unfallen in
    let counts : (k : ℕ) → k < length i.counted → 0 < share_of k (all_in c.row.result) → (get_or e.limits.items k 0 ≤ get_or e.counters.items k 0) ⊎ Contains c.queue_last.new.queue.0 k = λ k low some. elim (below k some) [
      | inl far ↦ inl far
      | inr waits ↦ inr (kept k waits)
    ] in
    let watches = last_queued e.slots.items e.trail.0 e.trail.1 e.watchers c.args.literal c.queue_last.new.queue.0 c.self.invariant.3 c.reveal.ensures.consistent unfallen c.queue_last.ensures.queued in
    subst (λ (s : State). (k : ℕ) → 0 < coefficient_of (constraint_at (shown s.slots) k) c.args.literal → IsQuiet s.propagated (constraint_at (shown s.slots) k) ⊎ Contains c.queue_last.new.queue.0 k) c.self.view_is
    (each_kind e.slots.items i.counted i.watched e.watchers.pairs e.trail.0 e.counters.items e.limits.items c.queue_last.new.queue.0 c.args.literal (all_in c.row.result) i.slots_are i.counters_are i.limits_are es counts watches)

-- Nothing stands at the place any more, and nobody needs what stood there.
use Rattle.std.proofs.Common.{◌≡◌, ◌<◌, ℕ, Some, None, length, get_or, set, ap, sym, subst, arith}
use Rattle.trail.specs.Trails.{on_trail}
use Rattle.ledger.specs.Ledgers.{State}
use Rattle.ledger.proofs.Attaching.{reasons_apart, taken_out, with_pairs}
use Rattle.ledger.proofs.PlacedOrders.{orders_without}
use Rattle.ledger.proofs.WatchedPlaces.{watched_without}
use Rattle.ledger.proofs.ledger.Ledger.take_out.Goals as goal

pub invariant_of-self : goal.invariant_of-self
invariant_of-self c =
    let e = c.self.inside in
    let low : c.args.place < length e.slots.items = omega (arith, c.requires.place, ap (λ (s : State). length s.slots) c.self.view_is) in
    let free : (k : ℕ) → k < length (on_trail e.trail) → get_or e.reasons.items k None ≡ Some c.args.place → ⊥ = subst (λ (s : State). (k : ℕ) → k < length s.assigned → get_or s.reasons k None ≡ Some c.args.place → ⊥) (sym c.self.view_is) c.requires.reasons in
    let gone : c.take.new.self ≡ None = c.take.ensures.after in
    rw (gone, c.set_nought.ensures) (
      with_pairs (set e.slots.items c.args.place None) e.trail.0 e.trail.1 e.table e.clauses e.counters.items (set e.limits.items c.args.place 0) (set e.watchers.pairs c.args.place None) c.forget.new.self.pairs
          (taken_out e.slots.items c.args.place e.trail.0 e.trail.1 e.table e.clauses e.counters.items e.limits.items e.watchers.pairs c.self.invariant.0 low) c.forget.ensures.pairs,
      reasons_apart e.slots.items c.args.place (on_trail e.trail) e.reasons.items c.self.invariant.1 free,
      c.self.invariant.2,
      watched_without e.slots.items c.args.place e.trail.0 e.trail.1 e.watchers c.forget.new.self low (omega (arith, low, c.self.invariant.0.slots_are.pair_count)) c.forget.ensures.pairs c.forget.ensures.rows c.forget.ensures.others c.self.invariant.3,
      orders_without e.slots.items (on_trail e.trail) c.args.place e.orders c.take_out.new.self low c.self.invariant.4 c.take_out.ensures,
    )

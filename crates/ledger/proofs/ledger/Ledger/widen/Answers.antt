-- More room.
use Rattle.std.proofs.Common.{◌≡◌, ◌≤◌, ◌*◌, ◌⊎◌, inl, inr, ℕ, length, vec_capacity, arith}
use Rattle.ledger.proofs.Attaching.{widened, with_pairs}
use Rattle.ledger.proofs.WatchedPlaces.{watched_wider}
use Rattle.ledger.proofs.ledger.Ledger.widen.Goals as goal

pub invariant_of-self-in_err-widen-3 : goal.invariant_of-self-in_err-widen-3
invariant_of-self-in_err-widen-3 c =
    let e = c.self.inside in
    let i = c.self.invariant.0 in
    let v = e.trail.1 in (
      with_pairs e.slots.items e.trail.0 v c.widen.new.self c.widen-2.new.self e.counters.items e.limits.items e.watchers.pairs c.widen-3.new.self.pairs
          (widened e.slots.items e.trail.0 v v e.table c.widen.new.self e.clauses c.widen-2.new.self e.counters.items e.limits.items e.watchers.pairs i (omega arith) (omega (arith, i.index.size, c.widen.ensures.longer)) c.widen.ensures.kept c.widen-2.ensures.count (omega (arith, i.watched_index.index.size, c.widen-2.ensures.longer)) c.widen-2.ensures.kept)
          c.widen-3.ensures.pairs,
      c.self.invariant.1,
      c.self.invariant.2,
      watched_wider e.slots.items e.trail.0 v v e.watchers c.widen-3.new.self c.self.invariant.3 c.widen-3.ensures.pairs c.widen-3.ensures.literals (omega arith) (omega (arith, c.self.invariant.3.size, c.widen-3.ensures.longer)) c.widen-3.ensures.kept,
      c.self.invariant.4,
    )

pub invariant_of-self-in_err-reserve : goal.invariant_of-self-in_err-reserve
invariant_of-self-in_err-reserve c =
    let e = c.self.inside in
    let i = c.self.invariant.0 in
    let v = e.trail.1 in (
      with_pairs e.slots.items e.trail.0 v c.widen.new.self c.widen-2.new.self e.counters.items e.limits.items e.watchers.pairs c.widen-3.new.self.pairs
          (widened e.slots.items e.trail.0 v v e.table c.widen.new.self e.clauses c.widen-2.new.self e.counters.items e.limits.items e.watchers.pairs i (omega arith) (omega (arith, i.index.size, c.widen.ensures.longer)) c.widen.ensures.kept c.widen-2.ensures.count (omega (arith, i.watched_index.index.size, c.widen-2.ensures.longer)) c.widen-2.ensures.kept)
          c.widen-3.ensures.pairs,
      (rw c.reserve.ensures.items c.self.invariant.1),
      omega (arith, c.self.invariant.2, c.reserve.ensures.capacity),
      watched_wider e.slots.items e.trail.0 v v e.watchers c.widen-3.new.self c.self.invariant.3 c.widen-3.ensures.pairs c.widen-3.ensures.literals (omega arith) (omega (arith, c.self.invariant.3.size, c.widen-3.ensures.longer)) c.widen-3.ensures.kept,
      c.self.invariant.4,
    )

-- no more variables than there is room for
fits : (old new most size : ℕ) → 2 * old ≤ size → most * 2 ≤ size → (new ≡ old) ⊎ (new ≤ most) → 2 * new ≤ size
fits old new most size a b (inl e) = omega (arith, a, e)
fits old new most size a b (inr h) = omega (arith, b, h)

below : (old new most room : ℕ) → old ≤ room → most ≤ room → (new ≡ old) ⊎ (new ≤ most) → new ≤ room
below old new most room a b (inl e) = omega (arith, a, e)
below old new most room a b (inr h) = omega (arith, b, h)

pub invariant_of-self-2 : goal.invariant_of-self-2
invariant_of-self-2 c =
    let e = c.self.inside in
    let i = c.self.invariant.0 in
    let v = e.trail.1 in
    let w = c.widen-4.new.self.1 in
    let most = c.widen-4.ensures.most in
    let table : 2 * w ≤ length c.widen.new.self = fits v w c.args.variables (length c.widen.new.self) (omega (arith, i.index.size, c.widen.ensures.longer)) c.in_ok-widen.ensures.ok most in
    let clauses : 2 * w ≤ length c.widen-2.new.self.rows = fits v w c.args.variables (length c.widen-2.new.self.rows) (omega (arith, i.watched_index.index.size, c.widen-2.ensures.longer)) c.in_ok-widen-2.ensures.ok most in
    let rows : 2 * w ≤ length c.widen-3.new.self.rows = fits v w c.args.variables (length c.widen-3.new.self.rows) (omega (arith, c.self.invariant.3.size, c.widen-3.ensures.longer)) c.in_ok-widen-3.ensures.ok most in
    let room : c.args.variables ≤ vec_capacity c.reserve.new.self = omega (arith, c.in_ok-reserve.ensures.ok, c.in_ok-reserve.ensures.succeeds, c.reserve.ensures.len, c.len.ensures, c.saturating_sub.ensures) in
    rw (c.widen-4.ensures.propagated, c.widen-4.ensures.pending) (
      with_pairs e.slots.items e.trail.0 w c.widen.new.self c.widen-2.new.self e.counters.items e.limits.items e.watchers.pairs c.widen-3.new.self.pairs
          (widened e.slots.items e.trail.0 v w e.table c.widen.new.self e.clauses c.widen-2.new.self e.counters.items e.limits.items e.watchers.pairs i c.widen-4.ensures.more table c.widen.ensures.kept c.widen-2.ensures.count clauses c.widen-2.ensures.kept)
          c.widen-3.ensures.pairs,
      (rw c.reserve.ensures.items c.self.invariant.1),
      below v w c.args.variables (vec_capacity c.reserve.new.self) (omega (arith, c.self.invariant.2, c.reserve.ensures.capacity)) room most,
      watched_wider e.slots.items e.trail.0 v w e.watchers c.widen-3.new.self c.self.invariant.3 c.widen-3.ensures.pairs c.widen-3.ensures.literals c.widen-4.ensures.more rows c.widen-3.ensures.kept,
      c.self.invariant.4,
    )

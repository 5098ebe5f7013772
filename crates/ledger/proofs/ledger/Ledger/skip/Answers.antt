-- One empty place more at the end of all lists.
use Rattle.std.proofs.Common.{◌≡◌, ℕ, List, Option, None, [], ◌∷◌, ◌++◌, length, refl, ap, ◌∙◌, arith}
use Rattle.normal_form.specs.Normal.{NormalConstraint}
use Rattle.trail.specs.Trails.{on_trail}
use Rattle.ledger.proofs.Attaching.{attached_empty, none_is_not_some, reasons_beside, with_pairs}
use Rattle.ledger.proofs.PlacedOrders.{orders_more}
use Rattle.ledger.proofs.WatchedPlaces.{same_rows, watched_kept, watched_more}
use Rattle.ledger.proofs.ledger.Ledger.skip.Goals as goal

pub invariant_of-self : goal.invariant_of-self
invariant_of-self c = rw c.reserve.ensures.items c.self.invariant

pub invariant_of-self-in_err-skip : goal.invariant_of-self-in_err-skip
invariant_of-self-in_err-skip c =
    let e = c.self.inside in
    let room = c.reserve.ensures.items in
    let new = c.skip.new.self in
    rw room (
      with_pairs e.slots.items e.trail.0 e.trail.1 e.table e.clauses e.counters.items e.limits.items e.watchers.pairs new.pairs c.self.invariant.0 c.in_err-skip.ensures.err,
      c.self.invariant.1,
      c.self.invariant.2,
      watched_kept e.slots.items e.trail.0 e.trail.1 e.watchers new c.self.invariant.3 c.in_err-skip.ensures.err (omega (arith, ap (length {A = List ℕ}) c.skip.ensures.rows)) (same_rows e.watchers.rows new.rows c.skip.ensures.rows) (λ k low. c.skip.ensures.others k),
      c.self.invariant.4,
    )

pub invariant_of-self-2 : goal.invariant_of-self-2
invariant_of-self-2 c =
    let e = c.self.inside in
    let room = c.reserve.ensures.items in
    let slots : c.push_reserved.new.self.items ≡ e.slots.items ++ None ∷ [] = c.push_reserved.ensures.items ∙ ap (λ (os : List (Option NormalConstraint)). os ++ None ∷ []) room in
    let new = c.skip.new.self in
    let pairs = c.in_ok-skip.ensures.ok in
    rw slots (
      with_pairs (e.slots.items ++ None ∷ []) e.trail.0 e.trail.1 e.table e.clauses e.counters.items e.limits.items (e.watchers.pairs ++ None ∷ []) new.pairs
          (attached_empty e.slots.items e.trail.0 e.trail.1 e.table e.clauses e.counters.items e.limits.items e.watchers.pairs c.self.invariant.0) pairs,
      reasons_beside e.slots.items None (on_trail e.trail) e.reasons.items c.self.invariant.1,
      c.self.invariant.2,
      watched_more e.slots.items e.trail.0 e.trail.1 e.watchers new None None c.self.invariant.3 c.self.invariant.0.slots_are.pair_count pairs (omega (arith, ap (length {A = List ℕ}) c.skip.ensures.rows)) (same_rows e.watchers.rows new.rows c.skip.ensures.rows) (λ k low. c.skip.ensures.others k) tt,
      orders_more e.slots.items (on_trail e.trail) e.orders e.orders None c.self.invariant.4 (λ k other. refl) (λ n e. absurd (none_is_not_some n e)),
    )

-- No id gets or loses a place, and the table is no longer than it has to be.
use Rattle.std.proofs.Common.{◌≡◌, ◌+◌, ◌-◌, ◌≤◌, ◌⊎◌, ℕ, length}
use Rattle.places.specs.Placed.{AreRows, rows_from}
use Rattle.places.proofs.places.make_room.Given as goal

abbrev pub invariant-loop-alloc : goal.invariant-loop-alloc
invariant-loop-alloc l =
    ((first : ℕ) → rows_from first l.rows.items ≡ rows_from first l.fn.rows.items)
    × (AreRows l.fn.rows.items → AreRows l.rows.items)
    × ((length l.rows.items ≤ length l.fn.rows.items) ⊎ (length l.rows.items ≤ l.row + 1))

abbrev pub decreases-loop-alloc : goal.decreases-loop-alloc
decreases-loop-alloc l = (l.row + 1) - length l.rows.items

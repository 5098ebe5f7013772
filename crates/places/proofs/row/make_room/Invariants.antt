-- No id gets or loses a place, and the table is no longer than it has to be.
use Rattle.std.proofs.Common.{◌≡◌, ◌+◌, ◌-◌, ◌≤◌, ◌⊎◌, ℕ, length}
use Rattle.places.specs.Placed.{entries_from}
use Rattle.places.proofs.row.make_room.Given as goal

abbrev pub invariant-loop-numbers : goal.invariant-loop-numbers
invariant-loop-numbers l =
    ((first : ℕ) → entries_from first l.numbers.items ≡ entries_from first l.fn.numbers.items)
    × ((length l.numbers.items ≤ length l.fn.numbers.items) ⊎ (length l.numbers.items ≤ l.offset + 1))

abbrev pub decreases-loop-numbers : goal.decreases-loop-numbers
decreases-loop-numbers l = (l.offset + 1) - length l.numbers.items

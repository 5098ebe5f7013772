-- No offset from the given one on has a place so far.
use Rattle.std.proofs.Common.{◌≡◌, ◌<◌, ◌≤◌, ℕ, None}
use Rattle.places.specs.Places.{place_of}
use Rattle.places.specs.Placed.{entries_from}
use Rattle.places.proofs.row.Row.first_from.Given as goal

abbrev pub invariant-loop-next : goal.invariant-loop-next
invariant-loop-next l = (q : ℕ) → l.offset ≤ q → q < l.next → place_of (entries_from 0 l.self-inside.numbers.items) q ≡ None

-- No id above the given one has a place so far.
use Rattle.std.proofs.Common.{◌≡◌, ◌+◌, ◌*◌, ◌<◌, ◌≤◌, ℕ, None}
use Rattle.places.specs.Places.{place_of}
use Rattle.places.specs.Placed.{rows_from}
use Rattle.places.proofs.places.Places.after.Given as goal

abbrev pub invariant-loop-row : goal.invariant-loop-row
invariant-loop-row l = record {
  low : l.id + 1 ≤ 1024 * l.row + l.offset;
  short : l.offset ≤ 1024;
  none : (q : ℕ) → l.id < q → q < 1024 * l.row + l.offset → place_of (rows_from 0 l.self-inside.rows.items) q ≡ None;
}

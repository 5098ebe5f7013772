-- The terms below `next` are made, and the marks of the others are ahead.
use Rattle.std.proofs.Common.{◌≡◌, ℕ, ◌<◌, ◌≤◌, length, take, slice_index_or}
use Rattle.std.specs.Prelude.{pos, unsigned_abs}
use Rattle.accumulate.specs.Nets.{terms_from, IsAhead}
use Rattle.accumulate.proofs.reading.collect.Given as goal

abbrev pub invariant-loop-var : goal.invariant-loop-var
invariant-loop-var l = record {
  made : l.terms ≡ terms_from 0 (take l.next l.nets.items);
  room : l.next ≤ length l.nets.items;
  ahead : (v : ℕ) → l.next ≤ v → 0 < unsigned_abs (slice_index_or l.nets.items v (pos 0)) → IsAhead l.var-index l.touched.items v;
}

-- The marks of the cells that are not yet 0 are ahead.
use Rattle.std.proofs.Common.{◌≡◌, ℕ, ◌<◌, length, slice_index_or}
use Rattle.std.specs.Prelude.{pos, unsigned_abs}
use Rattle.accumulate.specs.Nets.{IsAhead}
use Rattle.accumulate.proofs.reading.clear.Given as goal

abbrev pub invariant-loop-var : goal.invariant-loop-var
invariant-loop-var l = record {
  same_length : length l.nets.items ≡ length l.fn.nets.items;
  ahead : (v : ℕ) → 0 < unsigned_abs (slice_index_or l.nets.items v (pos 0)) → IsAhead l.var-index l.touched.items v;
}

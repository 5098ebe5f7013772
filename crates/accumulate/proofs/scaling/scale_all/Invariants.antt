-- The cells below `next` are scaled, and the marks of the others are ahead.
use Rattle.std.proofs.Common.{ℕ, ◌<◌, ◌≤◌, slice_index_or}
use Rattle.std.specs.Prelude.{pos, unsigned_abs}
use Rattle.accumulate.specs.Nets.{IsAhead, scaled}
use Rattle.accumulate.proofs.Scaled.{ScaledBelow}
use Rattle.accumulate.proofs.scaling.scale_all.Given as goal

abbrev pub invariant-loop-var : goal.invariant-loop-var
invariant-loop-var l = record {
  below : ScaledBelow (scaled l.scaling) l.next l.fn.nets.items l.nets.items l.sum;
  ahead : (v : ℕ) → l.next ≤ v → 0 < unsigned_abs (slice_index_or l.fn.nets.items v (pos 0)) → IsAhead l.var-index l.touched.items v;
}

-- The variables so far that have a coefficient are marked, and there is room for the others.
use Rattle.std.proofs.Common.{◌≡◌, ◌≤◌, length, vec_capacity, vec_len}
use Rattle.std.specs.List.{filter, range_with_len}
use Rattle.accumulate.specs.Nets.{is_live}
use Rattle.accumulate.proofs.tidying.mark_anew.Given as goal

abbrev pub invariant-loop-place : goal.invariant-loop-place
invariant-loop-place l = record {
  marks : l.touched.items ≡ filter (is_live l.nets.items) (range_with_len 0 l.place);
  fewer : vec_len l.touched ≤ l.place;
  room : length l.nets.items ≤ vec_capacity l.touched;
}

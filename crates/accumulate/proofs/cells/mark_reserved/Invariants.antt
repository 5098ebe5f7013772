-- The variables of the terms before this place are marked, and there is room for the others.
use Rattle.std.proofs.Common.{◌≡◌, ℕ, ◌+◌, ◌<◌, ◌≤◌, take, vec_len, vec_capacity}
use Rattle.std.specs.Prelude.{All, Contains}
use Rattle.normal_form.specs.Normal.{variable_bound}
use Rattle.accumulate.specs.Nets.{NamesAll}
use Rattle.accumulate.proofs.cells.mark_reserved.Given as goal

abbrev pub invariant-loop-place : goal.invariant-loop-place
invariant-loop-place l = record {
  names : NamesAll l.touched.items (take l.place l.other.terms);
  kept : (v : ℕ) → Contains l.fn.touched.items v → Contains l.touched.items v;
  below : (n : ℕ) → variable_bound l.other.terms ≤ n → All (λ v. v < n) l.fn.touched.items → All (λ v. v < n) l.touched.items;
  longer : vec_len l.touched ≡ vec_len l.fn.touched + l.place;
  room : vec_capacity l.touched ≡ vec_capacity l.fn.touched;
}

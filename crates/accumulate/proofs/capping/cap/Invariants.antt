-- A cell is capped, or it is as before and its mark is ahead.
use Rattle.std.proofs.Common.{◌≡◌, ℕ, List, ◌≤◌, ◌⊎◌, slice_index_or}
use Rattle.std.specs.Prelude.{pos}
use Rattle.accumulate.specs.Nets.{IsAhead, IsMarkedAbove, capped, sizes}
use Rattle.accumulate.proofs.capping.cap.Given as goal

abbrev pub invariant-loop-var : goal.invariant-loop-var
invariant-loop-var l = record {
  cells : (v : ℕ) → (slice_index_or l.nets.items v (pos 0) ≡ capped l.most (slice_index_or l.fn.nets.items v (pos 0)))
      ⊎ ((slice_index_or l.nets.items v (pos 0) ≡ slice_index_or l.fn.nets.items v (pos 0)) × IsAhead l.var-index l.marks.items v);
  marked : (level : ℕ) (marks : List ℕ) → IsMarkedAbove level marks l.fn.nets.items → IsMarkedAbove level marks l.nets.items;
  sum : l.all ≡ sizes l.nets.items;
  less : l.all ≤ l.sum;
}

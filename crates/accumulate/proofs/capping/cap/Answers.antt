-- Each step caps the cell that is marked next.
use Rattle.std.proofs.Common.{◌≡◌, ◌⊎◌, ◌+◌, arith, ℕ, ap, subst, sym, List, length, slice_index_or}
use Rattle.std.specs.Prelude.{ℤ, pos}
use Rattle.accumulate.specs.Nets.{IsAhead, capped}
use Rattle.accumulate.proofs.CappedCells.{one_capped}
use Rattle.accumulate.proofs.capping.cap.Goals as goal

pub loop-var-preserved : goal.loop-var-preserved
loop-var-preserved c = record {
  cells = subst (λ (xs : List ℤ). (v : ℕ) → (slice_index_or xs v (pos 0) ≡ capped c.args.most (slice_index_or c.args.nets.now.items v (pos 0))) ⊎ ((slice_index_or xs v (pos 0) ≡ slice_index_or c.args.nets.now.items v (pos 0)) × IsAhead (c.loop-var.var-index + 1) c.args.marks.now.items v)) (sym c.cap_cell-all.ensures.cell) (one_capped c.args.most c.args.marks.now.items c.args.nets.now.items c.loop-var.nets.items c.loop-var.var-index (slice_index_or c.deref-var-items.result.now c.loop-var.var-index 0) (omega (arith, c.loop-var-test.true, ap length c.deref-var-items.ensures.value)) (ap (λ (xs : List ℕ). slice_index_or xs c.loop-var.var-index 0) c.deref-var-items.ensures.value) (omega (arith, (c.loop-var.invariant.marked c.args.most c.args.marks.now.items c.requires.marks).room c.loop-var.var-index 0 (omega (arith, c.loop-var-test.true, ap length c.deref-var-items.ensures.value)), ap (λ (xs : List ℕ). slice_index_or xs c.loop-var.var-index 0) c.deref-var-items.ensures.value)) c.loop-var.invariant.cells);
  marked = λ level marks m. c.cap_cell-all.ensures.marks level marks (c.loop-var.invariant.marked level marks m);
  sum = c.cap_cell-all.ensures.sum;
  less = omega (arith, c.cap_cell-all.ensures.less, c.loop-var.invariant.less);
}

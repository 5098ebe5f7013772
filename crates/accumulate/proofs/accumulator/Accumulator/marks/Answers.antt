use Rattle.std.proofs.Common.{ℕ, List, Contains, subst, sym}
use Rattle.accumulate.proofs.ReadCells.{marked_at}
use Rattle.accumulate.proofs.accumulator.Accumulator.marks.Goals as goal

pub returns : goal.returns
returns c v s h = subst (λ (xs : List ℕ). Contains xs v) (sym c.as_slice.ensures.value) (marked_at c.args.self.now c.self.inside.nets.items c.self.inside.touched.items c.self.inside.degree c.self.view_is c.self.invariant.0.marked v s h)

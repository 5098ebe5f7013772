-- The terms stay as they were.
use Rattle.std.proofs.Common.{◌≡◌, ℕ, List, ◌-◌, length}
use Rattle.accumulate.specs.Nets.{terms_from, IsMarkedAbove}
use Rattle.accumulate.proofs.cells.lengthen.Given as goal

abbrev pub invariant-loop-nets : goal.invariant-loop-nets
invariant-loop-nets l = record {
  terms : terms_from 0 l.nets.items ≡ terms_from 0 l.fn.nets.items;
  marks : (level : ℕ) (marks : List ℕ) → IsMarkedAbove level marks l.fn.nets.items → IsMarkedAbove level marks l.nets.items;
}

abbrev pub decreases-loop-nets : goal.decreases-loop-nets
decreases-loop-nets l = l.wanted - length l.nets.items

-- The terms before this place are added.
use Rattle.std.proofs.Common.{◌≡◌, ℕ, Bool, List, ◌+◌, ◌≤◌, ◌+ℤ◌, length, take}
use Rattle.normal_form.specs.Normal.{total}
use Rattle.normal_form.specs.Balance.{rises_of}
use Rattle.accumulate.specs.Nets.{nets_of, sizes, turned, IsMarkedAbove, NamesAll}
use Rattle.accumulate.proofs.cells.apply.Given as goal

abbrev pub invariant-loop-place : goal.invariant-loop-place
invariant-loop-place l = record {
  same_length : length l.nets.items ≡ length l.fn.nets.items;
  sum : l.all ≡ sizes l.nets.items;
  small : l.all ≤ l.fn.sum + total (take l.place l.other.terms);
  gives : (set : ℕ → Bool) → nets_of set 0 l.nets.items ≡ nets_of set 0 l.fn.nets.items +ℤ turned l.change (rises_of set (take l.place l.other.terms));
  marks : (level : ℕ) (marks : List ℕ) → NamesAll marks l.other.terms → IsMarkedAbove level marks l.fn.nets.items → IsMarkedAbove level marks l.nets.items;
}

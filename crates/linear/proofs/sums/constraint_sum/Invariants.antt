use Rattle.std.proofs.Common.{◌≡◌, ◌*◌, drop, pos, neg_ℤ, ◌+ℤ◌, ◌≤ℤ◌}
use Rattle.linear.specs.Sum.{sum_of}
use Rattle.linear.specs.Valuation.{valuation_of}
use Rattle.linear.specs.Limits.{largest_integer}
use Rattle.linear.proofs.sums.constraint_sum.Given as goal

-- the sum so far and that of the terms that are left make the whole sum, and the sum so far is small
abbrev pub invariant-loop-place : goal.invariant-loop-place
invariant-loop-place l =
    let a = valuation_of l.assignment in
    record {
      so_far : l.sum +ℤ sum_of a (drop l.place l.constraint.terms) ≡ sum_of a l.constraint.terms;
      low : neg_ℤ (pos (l.place * largest_integer)) ≤ℤ l.sum;
      high : l.sum ≤ℤ pos (l.place * largest_integer);
    }

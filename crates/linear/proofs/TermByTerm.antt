-- Sums term by term.
use Rattle.std.proofs.Common.{◌≡◌, ℕ, ◌+◌, ◌<◌, ◌≤◌, Bool, true, false, List, length, get_or, drop, pos, ◌+ℤ◌, ◌≤ℤ◌, neg_ℤ, if◌then◌else◌, unsigned_abs, refl, arith}
use Rattle.std.proofs.Math.Seq.{drop-cons}
use Rattle.std.proofs.Math.Numerals.{add-one}
use Rattle.std.proofs.lemmas.Int.{ints}
use Rattle.linear.specs.declared.term.Term.{Term}
use Rattle.linear.specs.Valuation.{Valuation, literal_true}
use Rattle.linear.specs.Sum.{worth, sum_of}
use Rattle.linear.specs.Limits.{IsTermWithin, largest_integer}

-- the sum of what is left begins with the next term's worth
pub sum_of-drop : (a : Valuation) (ts : List Term) (i : ℕ) (d : Term) → i < length ts → sum_of a (drop i ts) ≡ worth a (get_or ts i d) +ℤ sum_of a (drop (i + 1) ts)
sum_of-drop a ts i d h = rw (add-one i, drop-cons ts i d h) refl

-- a term within the limits is worth no more in size than the largest integer
pub worth_small : (a : Valuation) (n : ℕ) (t : Term) → IsTermWithin n t → (neg_ℤ (pos (largest_integer)) ≤ℤ worth a t) × (worth a t ≤ℤ pos (largest_integer))
worth_small a n t h = by (literal_true a (t.var.0) t.negated)
  where
    within : unsigned_abs t.coef ≤ largest_integer
    within = h.coefficient

    by : (b : Bool) → (neg_ℤ (pos (largest_integer)) ≤ℤ (if b then t.coef else pos 0)) × ((if b then t.coef else pos 0) ≤ℤ pos (largest_integer))
    by true = (omega (arith, ints, within), omega (arith, ints, within))
    by false = (omega (arith, ints), omega (arith, ints))

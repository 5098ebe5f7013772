-- Sums that are added up term by term, none of which can leave its type on the way.
use Rattle.std.proofs.Common.{◌≡◌, ℕ, ◌+◌, ◌*◌, ◌<◌, List, length, ℤ, pos, neg_ℤ, ◌+ℤ◌, ◌≤ℤ◌, drop, get_or, arith}
use Rattle.std.proofs.lemmas.Int.{ints}
use Rattle.std.proofs.lemmas.List.Elements.{All-get_or}
use Rattle.linear.specs.declared.term.Term.{Term}
use Rattle.linear.specs.Sum.{sum_of, worth}
use Rattle.linear.specs.Valuation.{Valuation}
use Rattle.linear.specs.Limits.{IsTermWithin, IsSumWithin, largest_integer}
use Rattle.linear.proofs.TermByTerm.{sum_of-drop, worth_small}

-- one more term: the sum so far with its worth, and the bounds of both
pub record Next (a : Valuation) (ts : List Term) (i : ℕ) (s : ℤ) : Type 0 where
  pub whole : s +ℤ sum_of a (drop (i + 1) ts) ≡ sum_of a ts
  pub low : neg_ℤ (pos ((i + 1) * largest_integer)) ≤ℤ s
  pub high : s ≤ℤ pos ((i + 1) * largest_integer)

pub more : (a : Valuation) (n : ℕ) (ts : List Term) (i : ℕ) (d : Term) (s : ℤ) → IsSumWithin n ts → i < length ts → s +ℤ sum_of a (drop i ts) ≡ sum_of a ts
    → neg_ℤ (pos (i * largest_integer)) ≤ℤ s → s ≤ℤ pos (i * largest_integer) → Next a ts i (s +ℤ worth a (get_or ts i d))
more a n ts i d s within h whole low high =
    let step = sum_of-drop a ts i d h in
    let small = worth_small a n (get_or ts i d) (All-get_or (IsTermWithin n) ts i d h within.each) in
    record { whole = omega (arith, ints, step, whole); low = omega (arith, ints, small.0); high = omega (arith, ints, small.1) }

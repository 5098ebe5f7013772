-- Marks of all variables that have a net coefficient, asked one after another.
use Rattle.std.proofs.Common.{◌≡◌, ◌∙◌, ℕ, zero, suc, ◌+◌, ◌<◌, List, [], ◌∷◌, ◌++◌, length, get_or, ap, sym, arith}
use Rattle.std.specs.Prelude.{ℤ, pos, unsigned_abs, All, Contains}
use Rattle.std.specs.List.{filter, range_with_len}
use Rattle.std.specs.List.Sorted.{IsStrictlyIncreasing}
use Rattle.std.proofs.Math.Numerals.{add-one}
use Rattle.std.proofs.lemmas.List.Elements.{All-filter, filter-append}
use Rattle.std.proofs.lemmas.List.FromFn.{get_or-range_with_len, length-range_with_len}
use Rattle.std.proofs.lemmas.List.Kept.{IsStrictlyIncreasing-filter}
use Rattle.accumulate.specs.Nets.{AreTidy, is_live}
use Rattle.accumulate.proofs.Tidied.{all_live, filter_contains, live_at}

range_more : (a n : ℕ) → range_with_len a (suc n) ≡ range_with_len a n ++ (a + n) ∷ []
range_more a zero =
    let same : a ≡ a + 0 = omega arith in
    ap (λ (x : ℕ). x ∷ []) same
range_more a (suc n) =
    let same : (a + 1) + n ≡ a + suc n = omega arith in
    ap (λ (xs : List ℕ). a ∷ xs) (range_more (a + 1) n ∙ ap (λ (x : ℕ). range_with_len (a + 1) n ++ x ∷ []) same)

range_up : (n : ℕ) → range_with_len 0 (n + 1) ≡ range_with_len 0 n ++ n ∷ []
range_up n =
    let same : 0 + n ≡ n = omega arith in
    rw (add-one n) (range_more 0 n ∙ ap (λ (x : ℕ). range_with_len 0 n ++ x ∷ []) same)

-- one more is asked
pub asked_more : (ns : List ℤ) (marks : List ℕ) (n : ℕ) → marks ≡ filter (is_live ns) (range_with_len 0 n) → marks ++ filter (is_live ns) (n ∷ []) ≡ filter (is_live ns) (range_with_len 0 (n + 1))
asked_more ns marks n e =
    ap (λ (xs : List ℕ). xs ++ filter (is_live ns) (n ∷ [])) e ∙ sym (filter-append (is_live ns) (range_with_len 0 n) (n ∷ [])) ∙ ap (filter (is_live ns)) (sym (range_up n))

range_below : (n : ℕ) → All (λ v. v < n) (range_with_len 0 n)
range_below n k d low =
    let inside : k < n = omega (arith, low, length-range_with_len 0 n) in
    omega (arith, get_or-range_with_len 0 n k d inside, inside)

range_contains : (n v : ℕ) → v < n → Contains (range_with_len 0 n) v
range_contains n v h =
    let same : 0 + v ≡ v = omega arith in
    (v, omega (arith, h, length-range_with_len 0 n), get_or-range_with_len 0 n v v h ∙ same)

range_rises : (n : ℕ) → IsStrictlyIncreasing (range_with_len 0 n)
range_rises n k h =
    let inside : k + 1 < n = omega (arith, h, length-range_with_len 0 n) in
    omega (arith, get_or-range_with_len 0 n k 0 (omega (arith, inside)), get_or-range_with_len 0 n (k + 1) 0 inside)

-- what has a net coefficient stands in the array
live_inside : (ns : List ℤ) (v : ℕ) → 0 < unsigned_abs (get_or ns v (pos 0)) → v < length ns
live_inside [] v h = absurd (omega (arith, h))
live_inside (n ∷ ns) zero h = omega arith
live_inside (n ∷ ns) (suc v) h = omega (arith, live_inside ns v h)

-- all that are live stand in order when all were asked
pub asked_all : (ns : List ℤ) → AreTidy (filter (is_live ns) (range_with_len 0 (length ns))) ns
asked_all ns = record {
  marked = record {
    covers = λ v h. filter_contains (is_live ns) (range_with_len 0 (length ns)) v (live_at (unsigned_abs (get_or ns v (pos 0))) h) (range_contains (length ns) v (live_inside ns v h));
    room = All-filter (is_live ns) (λ v. v < length ns) (range_with_len 0 (length ns)) (range_below (length ns));
  };
  live = all_live (range_with_len 0 (length ns)) ns;
  rises = IsStrictlyIncreasing-filter (is_live ns) (range_with_len 0 (length ns)) (range_rises (length ns));
}

-- Orders of terms by decreasing coefficient: as they stand, and as they are sorted.
use Rattle.std.proofs.Common.{◌≡◌, ℕ, zero, suc, ◌+◌, ◌-◌, ◌^◌, ◌<◌, ◌≤◌, All, List, [], ◌∷◌, length, get_or, refl, ap, ◌∙◌, arith}
use Rattle.std.proofs.lemmas.List.{get_or_default}
use Rattle.std.proofs.lemmas.List.Sorted.{All-permutation, Contains-permutation, length_permutation}
use Rattle.std.specs.List.Sorted.{IsNonDecreasingBy, IsPermutation}
use Rattle.normal_form.specs.declared.term.NormalTerm.{NormalTerm}
use Rattle.normal_form.specs.Normal.{IsNormal, NormalConstraint, Rises, total, variable_bound}
use Rattle.ledger.specs.Orders.{IsDecreasing, coefficient_at, place_in}

-- numbers of which none is above the one before it
never_rises : (f : ℕ → ℕ) (count : ℕ) → ((k : ℕ) → 0 < k → k < count → f k ≤ f (k - 1)) → (i d : ℕ) → i + d < count → f (i + d) ≤ f i
never_rises f count h i zero low = let same : f (i + 0) ≡ f i = ap f (omega arith) in omega (arith, same)
never_rises f count h i (suc d) low =
    let step : f (i + suc d) ≤ f ((i + suc d) - 1) = h (i + suc d) (omega arith) low in
    let same : f ((i + suc d) - 1) ≡ f (i + d) = ap f (omega arith) in
    omega (arith, step, same, never_rises f count h i d (omega (arith, low)))

pub decreasing_as_they_stand : (terms : List NormalTerm) → ((k : ℕ) → 0 < k → k < length terms → coefficient_at terms k ≤ coefficient_at terms (k - 1)) → IsDecreasing terms []
decreasing_as_they_stand terms h = record {
  below = λ index low. low;
  each = λ place low. (place, low, refl);
  decreases = λ i j up low.
      let far : coefficient_at terms (i + (j - i)) ≤ coefficient_at terms i = never_rises (coefficient_at terms) (length terms) h i (j - i) (omega (arith, up, low)) in
      let same : coefficient_at terms (i + (j - i)) ≡ coefficient_at terms j = ap (coefficient_at terms) (omega (arith, up)) in
      omega (arith, far, same);
}

-- by how much a coefficient is below the greatest number
abbrev pub lack_at : List NormalTerm → ℕ → ℕ
lack_at terms place = (2 ^ 128 - 1) - coefficient_at terms place

more_of_less : (a b most : ℕ) → a ≤ most → b ≤ most → most - a ≤ most - b → b ≤ a
more_of_less a b most x y h = omega (arith, x, y, h)

-- the places as they stand, put in order
pub decreasing_when_sorted : (terms : List NormalTerm) (first order : List ℕ) → length first ≡ length terms → ((k : ℕ) → k < length terms → get_or first k 0 ≡ k) → IsPermutation first order → IsNonDecreasingBy (lack_at terms) order → ((k : ℕ) → coefficient_at terms k ≤ 2 ^ 128 - 1) → IsDecreasing terms order
decreasing_when_sorted terms first order count stand moves up few =
    let many : length order ≡ length terms = length_permutation first order moves ∙ count in
    let at : (k d : ℕ) → k < length terms → get_or first k d ≡ k = λ k d low. get_or_default first k d 0 (omega (arith, low, count)) ∙ stand k low in
    let all : All (λ k. k < length terms) order = All-permutation (λ k. k < length terms) first order moves (λ k d low. omega (arith, at k d (omega (arith, low, count)), low, count)) in
    record {
      below = λ index low. all index index (omega (arith, low, many));
      each = λ place low.
          let there = Contains-permutation first order place moves (place, omega (arith, low, count), at place place low) in
          (there.0, omega (arith, there.1, many), get_or_default order there.0 there.0 place there.1 ∙ there.2);
      decreases = λ i j h low.
          let long : j < length order = omega (arith, low, many) in
          let one : get_or order i j ≡ place_in order i = get_or_default order i j i (omega (arith, h, long)) in
          let less : lack_at terms (get_or order i j) ≤ lack_at terms (get_or order j j) = up i j j h long in
          more_of_less (coefficient_at terms (place_in order i)) (coefficient_at terms (place_in order j)) (2 ^ 128 - 1) (few (place_in order i)) (few (place_in order j)) (omega (arith, less, ap (lack_at terms) one));
    }

-- there are no more terms than variables
pub no_more_terms : (low : ℕ) (ts : List NormalTerm) → Rises low ts → 0 < length ts → low + length ts ≤ variable_bound ts
no_more_terms low [] r h = absurd (omega (arith, h))
no_more_terms low (t ∷ []) r h = omega (arith, r.0)
no_more_terms low (t ∷ u ∷ us) r h = omega (arith, r.0, no_more_terms (t.var.0 + 1) (u ∷ us) r.2 (omega arith))

below_total : (ts : List NormalTerm) (k : ℕ) → coefficient_at ts k ≤ total ts
below_total [] k = omega arith
below_total (t ∷ ts) zero = omega arith
below_total (t ∷ ts) (suc k) = omega (arith, below_total ts k)

-- coefficients are below the greatest number
pub few_enough : (n : NormalConstraint) → IsNormal n → (k : ℕ) → coefficient_at n.terms k ≤ 2 ^ 128 - 1
few_enough n is k = omega (arith, below_total n.terms k, is.fits.sum)

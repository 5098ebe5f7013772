-- An array of which each cell gets another size, and the constraint that it stands for.
use Rattle.std.proofs.Common.{◌≡◌, ℕ, zero, suc, ◌<◌, ◌≤◌, Bool, true, false, List, length, get_or, inl, inr, refl, ap, sym, ◌∙◌, arith}
use Rattle.std.specs.Prelude.{ℤ, pos, negsuc, neg_ℤ, unsigned_abs}
use Rattle.std.proofs.lemmas.Bool.{cases_lt}
use Rattle.std.proofs.lemmas.List.Elements.{All-weaker}
use Rattle.normal_form.specs.Normal.{coefficient, largest_sum}
use Rattle.normal_form.specs.NormalOf.{at_least_zero}
use Rattle.accumulate.specs.Nets.{AreResized, IsMarkedAbove, constraint_of, resized, sizes}
use Rattle.accumulate.proofs.NetTerms.{size_below}
use Rattle.accumulate.proofs.Coefficients.{beyond_all, coefficients_at}

none_above : (k : ℕ) → at_least_zero (neg_ℤ (pos k)) ≡ 0
none_above zero = refl
none_above (suc k) = refl

twice_turned : (k : ℕ) → neg_ℤ (neg_ℤ (pos k)) ≡ pos k
twice_turned zero = refl
twice_turned (suc k) = refl

pub size_of_turned : (k : ℕ) → unsigned_abs (neg_ℤ (pos k)) ≡ k
size_of_turned zero = refl
size_of_turned (suc k) = refl

pub resized_size : (f : ℕ → ℕ) (z : ℤ) → unsigned_abs (resized f z) ≡ f (unsigned_abs z)
resized_size f (pos n) = refl
resized_size f (negsuc n) = size_of_turned (f (suc n))

-- a number resized to a size that a function gives
pub resized_to : (f : ℕ → ℕ) (z : ℤ) → resized (λ _. f (unsigned_abs z)) z ≡ resized f z
resized_to f (pos n) = refl
resized_to f (negsuc n) = refl

plain : (f : ℕ → ℕ) → f 0 ≡ 0 → (z : ℤ) → at_least_zero (resized f z) ≡ f (at_least_zero z)
plain f e (pos n) = refl
plain f e (negsuc n) = none_above (f (suc n)) ∙ sym e

negated : (f : ℕ → ℕ) → f 0 ≡ 0 → (z : ℤ) → at_least_zero (neg_ℤ (resized f z)) ≡ f (at_least_zero (neg_ℤ z))
negated f e (pos n) = none_above (f n) ∙ sym e ∙ ap f (sym (none_above n))
negated f e (negsuc n) = ap at_least_zero (twice_turned (f (suc n)))

by_sign : (P : Bool → Type 0) → P false → P true → (s : Bool) → P s
by_sign P f t true = t
by_sign P f t false = f

-- each coefficient becomes what the function makes of it
pub resized_coefficients : (f : ℕ → ℕ) → f 0 ≡ 0 → (ns new : List ℤ) (before after : ℕ) → AreResized f ns new → (v : ℕ) (s : Bool) → coefficient (constraint_of new after) v s ≡ f (coefficient (constraint_of ns before) v s)
resized_coefficients f e ns new before after all v s = by_sign (λ s. coefficient (constraint_of new after) v s ≡ f (coefficient (constraint_of ns before) v s))
    ((coefficients_at new after v).0 ∙ ap at_least_zero (all v) ∙ plain f e (get_or ns v (pos 0)) ∙ ap f (sym ((coefficients_at ns before v).0)))
    ((coefficients_at new after v).1 ∙ ap (λ (z : ℤ). at_least_zero (neg_ℤ z)) (all v) ∙ negated f e (get_or ns v (pos 0)) ∙ ap f (sym ((coefficients_at ns before v).1)))
    s

-- no cell is greater than all together
pub below_sum : (ns : List ℤ) (v : ℕ) → unsigned_abs (get_or ns v (pos 0)) ≤ sizes ns
below_sum ns v = elim (cases_lt v (length ns)) [
  | inl h ↦ size_below ns v (pos 0) h
  | inr h ↦ omega (arith, ap unsigned_abs (beyond_all ns v h))
]

-- what was not above one level is not above what becomes of it
pub resized_marked : (f : ℕ → ℕ) (low high : ℕ) (marks : List ℕ) (ns new : List ℤ) → length new ≡ length ns → AreResized f ns new → sizes new ≤ largest_sum → ((n : ℕ) → n ≤ low → f n ≤ largest_sum → f n ≤ high)
    → IsMarkedAbove low marks ns → IsMarkedAbove high marks new
resized_marked f low high marks ns new same all small level m = record {
  covers = λ v p.
      let size : unsigned_abs (get_or new v (pos 0)) ≡ f (unsigned_abs (get_or ns v (pos 0))) = ap unsigned_abs (all v) ∙ resized_size f (get_or ns v (pos 0)) in
      m.covers v (elim (cases_lt low (unsigned_abs (get_or ns v (pos 0)))) [
        | inl h ↦ h
        | inr h ↦ absurd (omega (arith, p, size, level (unsigned_abs (get_or ns v (pos 0))) h (omega (arith, size, below_sum new v, small))))
      ]);
  room = All-weaker (λ v. v < length ns) (λ v. v < length new) (λ v p. omega (arith, p, same)) marks m.room;
}

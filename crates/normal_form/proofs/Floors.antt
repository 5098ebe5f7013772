-- Numbers put to 0 where they are below, and to the largest where they are above it.
use Rattle.std.proofs.Common.{◌≡◌, ℕ, ◌-◌, ◌^◌, min, refl, ap, ◌∙◌, arith}
use Rattle.std.specs.Prelude.{ℤ, pos, negsuc}
use Rattle.std.specs.Int.{saturate_to_bits}
use Rattle.normal_form.specs.NormalOf.{at_least_zero}

-- a number that is kept within the type differs only above it
pub floor_saturated : (z : ℤ) → at_least_zero (saturate_to_bits 127 z) ≡ min (at_least_zero z) (2 ^ 127 - 1)
floor_saturated (pos n) = refl
floor_saturated (negsuc n) = omega arith

pub floor_of : (z w : ℤ) (r : ℕ) → z ≡ w → r ≡ at_least_zero (saturate_to_bits 127 z) → r ≡ min (at_least_zero w) (2 ^ 127 - 1)
floor_of z w r e h = h ∙ floor_saturated z ∙ ap (λ (x : ℤ). min (at_least_zero x) (2 ^ 127 - 1)) e

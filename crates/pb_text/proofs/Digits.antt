-- Reading a number digit by digit.
use Rattle.std.proofs.Common.{◌≡◌, ℕ, zero, suc, ◌+◌, ◌-◌, ◌*◌, ◌^◌, ◌≤◌, Bool, true, false, ◌&&◌, List, ◌∷◌, length, refl, ap, sym, ◌∙◌, arith}
use Rattle.std.specs.List.{list_all}
use Rattle.std.proofs.Math.Nat.{pow-suc, mul-le-mul_left}
use Rattle.pb_text.specs.Name.{is_digit}
use Rattle.pb_text.specs.Number.{digits_value}

in_places : (v d t w : ℕ) → (v * 10 + d) * t + w ≡ v * (t * 10) + (d * t + w)
in_places v d t w = omega arith

-- one digit more: what was read counts ten times
pub digit_read : (v b : ℕ) (tail : List ℕ) →
    (v * 10 + (b - 48)) * 10 ^ length tail + digits_value tail ≡ v * 10 ^ length (b ∷ tail) + digits_value (b ∷ tail)
digit_read v b tail =
    in_places v (b - 48) (10 ^ length tail) (digits_value tail)
    ∙ ap (λ (t : ℕ). v * t + ((b - 48) * 10 ^ length tail + digits_value tail)) (sym (pow-suc 10 (length tail)))

one_at_least : (n : ℕ) → 1 ≤ 10 ^ n
one_at_least zero = omega arith
one_at_least (suc n) = rw (pow-suc 10 n) (omega (arith, one_at_least n))

-- what was read is at most the number
pub at_least_read : (v : ℕ) (tail : List ℕ) → v ≤ v * 10 ^ length tail + digits_value tail
at_least_read v tail = omega (arith, mul-le-mul_left v (one_at_least (length tail)))

both_true : (a b : Bool) → (a && b) ≡ true → (a ≡ true) × (b ≡ true)
both_true true b h = (refl, h)
both_true false b h = absurd (cc h)

-- behind the first of digits stand digits
pub digits_after : (b : ℕ) (rest tail : List ℕ) → rest ≡ b ∷ tail → list_all is_digit rest ≡ true → list_all is_digit tail ≡ true
digits_after b rest tail e h = (both_true (is_digit b) (list_all is_digit tail) (sym (ap (list_all is_digit) e) ∙ h)).1

-- the number stays what it is where its next digit is read
pub value_after : (v b d total : ℕ) (rest tail : List ℕ) → rest ≡ b ∷ tail → d ≡ b - 48 →
    v * 10 ^ length rest + digits_value rest ≡ total → (v * 10 + d) * 10 ^ length tail + digits_value tail ≡ total
value_after v b d total rest tail e f h =
    ap (λ (k : ℕ). (v * 10 + k) * 10 ^ length tail + digits_value tail) f
    ∙ digit_read v b tail
    ∙ sym (ap (λ (xs : List ℕ). v * 10 ^ length xs + digits_value xs) e)
    ∙ h

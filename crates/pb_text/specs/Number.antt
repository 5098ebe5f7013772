-- The number that a word writes in decimal.
use Rattle.std.specs.Prelude.{ℕ, ◌+◌, ◌-◌, ◌*◌, ◌^◌, Bool, false, ◌==◌, if◌then◌else◌, List, [], ◌∷◌, length, ℤ, pos, neg_ℤ}
use Rattle.pb_text.specs.Word.{without_sign}

-- the largest size of a number that either format writes
abbrev pub largest_number : ℕ
largest_number = 2 ^ 120

-- the number that digits write: each digit counts by the power of ten of its place
abbrev pub digits_value : List ℕ → ℕ
digits_value [] = 0
digits_value (b ∷ rest) = (b - 48) * 10 ^ length rest + digits_value rest

-- does the word begin with `-`
abbrev pub is_negative : List ℕ → Bool
is_negative [] = false
is_negative (b ∷ rest) = b == 45

-- the size of an integer word's number
unfoldable pub integer_size : List ℕ → ℕ
integer_size word = digits_value (without_sign word)

-- the number of an integer word; `-0` is 0, and leading zeros change nothing
unfoldable pub integer_value : List ℕ → ℤ
integer_value word = if is_negative word then neg_ℤ (pos (integer_size word)) else pos (integer_size word)

-- Short names, `x` with digits behind it, each with a number of its own, by which a table of names can be asked at once.
use Rattle.std.specs.Prelude.{◌≡◌, ℕ, ◌+◌, ◌*◌, ◌-◌, ◌<◌, List, [], ◌∷◌, reverse, All}

-- digits as a number to the base 11 in which no digit is 0, so that leading zeros count: the first one has the lowest place
abbrev pub number_from : List ℕ → ℕ
number_from [] = 0
number_from (d ∷ rest) = (d - 47) + 11 * number_from rest

-- a digit's byte
abbrev pub IsDigit : ℕ → Type 0
IsDigit d = (47 < d) × (d < 58)

-- a text is `x` and digits, and this is their number; the digits stand here with the last one first
pub record IsShort (name : List ℕ) (number : ℕ) : Type 0 where
  pub digits : List ℕ
  pub are_digits : All IsDigit digits
  pub spelled : name ≡ 120 ∷ reverse digits
  pub numbered : number ≡ number_from digits

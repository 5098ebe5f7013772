-- Names of variables: a letter or `_`, and then one or more letters, digits, `_ [ ] { } ^ -`. So a name has
-- two bytes at least. Names are compared as texts.
use Rattle.std.specs.Prelude.{ℕ, ◌==◌, ◌&&◌, ◌||◌, nat_le, nat_lt, Bool, false, List, [], ◌∷◌, length}
use Rattle.std.specs.List.{list_all}

abbrev pub is_letter : ℕ → Bool
is_letter b = (nat_le 65 b && nat_le b 90) || (nat_le 97 b && nat_le b 122)

abbrev pub is_digit : ℕ → Bool
is_digit b = nat_le 48 b && nat_le b 57

-- a letter or `_`
abbrev pub begins_name : ℕ → Bool
begins_name b = is_letter b || (b == 95)

-- a letter, a digit, or one of `_ [ ] { } ^ -`
abbrev pub continues_name : ℕ → Bool
continues_name b =
    is_letter b || is_digit b || (b == 95) || (b == 91) || (b == 93) || (b == 123) || (b == 125) || (b == 94) || (b == 45)

unfoldable pub is_name : List ℕ → Bool
is_name [] = false
is_name (b ∷ rest) = begins_name b && nat_lt 0 (length rest) && list_all continues_name rest

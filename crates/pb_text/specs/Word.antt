-- What a word is by its bytes: an integer, a literal or a misspelt name.
use Rattle.std.specs.Prelude.{ℕ, Bool, false, not, ◌==◌, ◌&&◌, ◌||◌, nat_lt, if◌then◌else◌, List, [], ◌∷◌, length}
use Rattle.std.specs.List.{list_all}
use Rattle.pb_text.specs.Name.{is_digit, begins_name, is_name}

-- `+` or `-`
abbrev pub is_sign : ℕ → Bool
is_sign b = (b == 43) || (b == 45)

-- the word without the sign at its front, if it has one
abbrev pub without_sign : List ℕ → List ℕ
without_sign [] = []
without_sign (b ∷ rest) = if is_sign b then rest else b ∷ rest

-- one digit or more
abbrev pub is_digits : List ℕ → Bool
is_digits word = nat_lt 0 (length word) && list_all is_digit word

-- `+`, `-` or no sign, and then digits
unfoldable pub is_integer : List ℕ → Bool
is_integer word = is_digits (without_sign word)

-- does the word begin with `~`
abbrev pub is_negated : List ℕ → Bool
is_negated [] = false
is_negated (b ∷ rest) = b == 126

-- the name in a literal: the word without the `~` at its front, if it has one
abbrev pub name_of : List ℕ → List ℕ
name_of [] = []
name_of (b ∷ rest) = if b == 126 then rest else b ∷ rest

-- `~` or nothing, and then a name
unfoldable pub is_literal : List ℕ → Bool
is_literal word = is_name (name_of word)

-- does the word begin as a literal does: with a letter, `_` or `~`
abbrev pub begins_literal : List ℕ → Bool
begins_literal [] = false
begins_literal (b ∷ rest) = begins_name b || (b == 126)

-- begun as a literal, and none
unfoldable pub is_misspelt : List ℕ → Bool
is_misspelt word = begins_literal word && not (is_literal word)

-- Tables of names: an ordered list of names, none twice. A name's number is its place.
use Rattle.std.specs.Prelude.{◌≡◌, ℕ, ◌++◌, ◌≤◌, Bool, true, false, List, [], ◌∷◌, nat_eq, length, All, if◌then◌else◌}
use Rattle.std.specs.List.{list_any, position_or_len, IsDistinct}
use Rattle.std.specs.Cmp.Lexicographic.{pointwise}
use Rattle.pb_text.specs.Kinds.{is_literal}
use Rattle.pb_text.specs.Lexeme.{Lexeme}
use Rattle.pb_text.specs.Name.{is_name}
use Rattle.pb_text.specs.Word.{name_of}
use Rattle.pb_text.specs.declared.kind.Kind.{Kind}
use Rattle.linear.specs.Largest.{most_names}

-- two names are the same text
abbrev pub same_name : List ℕ → List ℕ → Bool
same_name = pointwise nat_eq

-- whether a name stands in a table
abbrev pub has_name : List (List ℕ) → List ℕ → Bool
has_name names name = list_any (same_name name) names

-- the place of a name; of one that is not there, the length
abbrev pub place_of : List (List ℕ) → List ℕ → ℕ
place_of names name = position_or_len (same_name name) names

-- the table with a name at its end, unless the name is there already
abbrev pub with_name : List (List ℕ) → List ℕ → List (List ℕ)
with_name names name = if has_name names name then names else names ++ name ∷ []

-- the table with the name of a word at its end, where the word is a literal and its name new
abbrev pub with_word : List (List ℕ) → Kind → List ℕ → List (List ℕ)
with_word names kind word = if is_literal kind then with_name names (name_of word) else names

-- a table and the names of the literals among tokens that it does not have, in order of first occurrence
abbrev pub names_in : List (List ℕ) → List Lexeme → List (List ℕ)
names_in names [] = names
names_in names (t ∷ rest) = names_in (with_word names t.kind t.text) rest

-- names, none twice, as many as 32 bits can number
pub record IsTable (names : List (List ℕ)) : Type 0 where
  pub spelled : All (λ name. is_name name ≡ true) names
  pub distinct : IsDistinct same_name names
  pub numbered : length names ≤ most_names

-- the name is new, and the table has as many names as it may have
pub record IsFullFor (names : List (List ℕ)) (most : ℕ) (name : List ℕ) : Type 0 where
  pub unknown : has_name names name ≡ false
  pub full : most ≤ length names

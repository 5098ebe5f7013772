-- How names get their numbers: those that a table does not have yet go to its end, in order of first occurrence.
use Rattle.std.specs.Prelude.{ℕ, List, [], ◌∷◌}
use Rattle.pb_text.specs.Lexeme.{kind_of}
use Rattle.pb_text.specs.Word.{name_of, is_negated}
use Rattle.linear.specs.Table.{place_of, with_word}
use Rattle.linear.specs.declared.term.Lit.{Lit}

-- a table of names and the names of literals that it does not have, in order of first occurrence
abbrev pub names_in : List (List ℕ) → List (List ℕ) → List (List ℕ)
names_in names [] = names
names_in names (w ∷ rest) = names_in (with_word names (kind_of w) w) rest

-- the literal that a word writes, its variable numbered by a table
abbrev pub lit_of : List (List ℕ) → List ℕ → Lit
lit_of names w = record { var = record { 0 = place_of names (name_of w) }; negated = is_negated w }

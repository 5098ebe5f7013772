-- Of the code, not of the format: the names of a proof while one line is read. A line that is wrong elsewhere has that fault
-- first, so a name for which there is no number is remembered, and refused when the line has been read well.
use Rattle.std.specs.Prelude.{ℕ, ◌++◌, Bool, ◌||◌, true, nat_lt, if◌then◌else◌, List, [], ◌∷◌, length}
use Rattle.pb_text.specs.Lexeme.{kind_of}
use Rattle.pb_text.specs.Word.{name_of}
use Rattle.linear.specs.Table.{has_name}
use Rattle.proof_text.specs.Kinds.{is_literal}
use Rattle.linear.specs.Largest.{most_names}

-- the names but for the last
abbrev pub but_last : List (List ℕ) → List (List ℕ)
but_last [] = []
but_last (n ∷ []) = []
but_last (n ∷ m ∷ rest) = n ∷ but_last (m ∷ rest)

-- What the code keeps of a table while it reads a line: the names that were there before the line, the names that number
-- its literals, and whether a name was met that found no number. With such a name the line is refused in the end, and its
-- numbers count for nothing: to stay below 2^32, the name takes the number behind all names but the last.
pub record NamesMet : Type 0 where
  pub before : List (List ℕ)
  pub names : List (List ℕ)
  pub full : Bool

-- a name that is met
abbrev pub met : NamesMet → List ℕ → NamesMet
met k name =
    if k.full || has_name k.names name then k
    else if nat_lt (length k.names) most_names then record { before = k.before; names = k.names ++ name ∷ []; full = k.full }
    else record { before = k.before; names = but_last k.names; full = true }

-- the names of literals that are met
abbrev pub met_in : NamesMet → List (List ℕ) → NamesMet
met_in k [] = k
met_in k (w ∷ rest) = met_in (if is_literal (kind_of w) then met k (name_of w) else k) rest

-- The words of a line: the bytes of its tokens. What a line says is told by them alone.
use Rattle.std.specs.Prelude.{◌≡◌, ℕ, ◌≤◌, Bool, true, false, ◌&&◌, if◌then◌else◌, Option, Some, None, List, [], ◌∷◌, drop, All, bytes_eq}
use Rattle.pb_text.specs.Lexeme.{lexemes, kind_of}
use Rattle.pb_text.specs.TokensOf.{texts_of}
use Rattle.pb_text.specs.Number.{integer_size, largest_number}
use Rattle.proof_text.specs.Kinds.{is_integer, is_semicolon, is_arrow}

-- the words and symbols of a line, in order
unfoldable pub words : List ℕ → List (List ℕ)
words line = texts_of (lexemes line)

-- are there none
abbrev pub is_empty : List (List ℕ) → Bool
is_empty [] = true
is_empty (w ∷ rest) = false

-- is this word the first
abbrev pub is_first : List ℕ → List (List ℕ) → Bool
is_first word [] = false
is_first word (w ∷ rest) = bytes_eq w word

-- are these all the words
abbrev pub are_words : List (List ℕ) → List (List ℕ) → Bool
are_words [] ws = is_empty ws
are_words (word ∷ more) ws = is_first word ws && are_words more (drop 1 ws)

-- the words without the closing `;`, if they have one
abbrev pub unclosed : List (List ℕ) → List (List ℕ)
unclosed [] = []
unclosed (w ∷ []) = if is_semicolon (kind_of w) then [] else w ∷ []
unclosed (w ∷ v ∷ rest) = w ∷ unclosed (v ∷ rest)

-- the words behind an arrow, if one stands first
abbrev pub past_arrow : List (List ℕ) → List (List ℕ)
past_arrow [] = []
past_arrow (w ∷ rest) = if is_arrow (kind_of w) then rest else w ∷ rest

-- does an integer stand first
abbrev pub begins_integer : List (List ℕ) → Bool
begins_integer [] = false
begins_integer (w ∷ rest) = is_integer (kind_of w)

-- the words before the first `;`, and those behind it where there is one
pub record Halves : Type 0 where
  pub front : List (List ℕ)
  pub behind : Option (List (List ℕ))

abbrev pub halves : List (List ℕ) → Halves
halves [] = record { front = []; behind = None }
halves (w ∷ rest) =
    let after : Halves = halves rest in
    if is_semicolon (kind_of w) then record { front = []; behind = Some rest } else record { front = w ∷ after.front; behind = after.behind }

-- a word that is no integer above 2^120 in size
abbrev pub IsSmall : List ℕ → Type 0
IsSmall w = is_integer (kind_of w) ≡ true → integer_size w ≤ largest_number

-- no integer among the words is above 2^120 in size
abbrev pub AreSmall : List (List ℕ) → Type 0
AreSmall ws = All IsSmall ws

-- What the cutting of a text comes to, step by step: for the contracts of the code that cuts.
use Rattle.std.specs.Prelude.{◌≡◌, ℕ, ◌+◌, ◌<◌, ◌≤◌, ◌==◌, Bool, true, false, not, ◌&&◌, List, [], ◌∷◌, length, drop}
use Rattle.pb_text.specs.Lexeme.{Position, is_white, symbol_length}

-- does white space stand at the front
abbrev pub begins_white : List ℕ → Bool
begins_white [] = false
begins_white (b ∷ rest) = is_white b

-- does a byte of a word stand at the front
abbrev pub begins_word : List ℕ → Bool
begins_word [] = false
begins_word (b ∷ rest) = not (is_white b) && (symbol_length (b ∷ rest) == 0)

-- the position behind so many bytes of the same line
abbrev pub behind : ℕ → Position → Position
behind size p = record { start = p.start + size; line = p.line; comment = p.comment }

-- so many bytes of a word stand at the front of `rest`, and no more
pub record IsWordFront (n : ℕ) (rest : List ℕ) : Type 0 where
  pub within : n ≤ length rest
  pub bytes : (k : ℕ) → k < n → begins_word (drop k rest) ≡ true
  pub ends : begins_word (drop n rest) ≡ false

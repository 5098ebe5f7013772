-- How the tokens of a text stand in it.
use Rattle.std.specs.Prelude.{◌≡◌, ℕ, ◌+◌, ◌<◌, ◌≤◌, ◌==◌, List, [], ◌∷◌, length, take, drop, count_by}
use Rattle.pb_text.specs.Lexeme.{Lexeme, kind_of}

-- the line of a position in a text: 1 and the number of LF bytes before it
abbrev pub line_of : List ℕ → ℕ → ℕ
line_of text position = 1 + count_by (λ b. b == 10) (take position text)

-- a token's text is the slice of its source at its start, is not empty, stands on the token's line and has its kind
pub record StandsIn (text : List ℕ) (t : Lexeme) : Type 0 where
  pub slice : take (length t.text) (drop t.start text) ≡ t.text
  pub some : 0 < length t.text
  pub line : t.line ≡ line_of text t.start
  pub kind : t.kind ≡ kind_of t.text

-- the tokens stand one behind another, none of them before the position `from`
abbrev pub AreInOrder : ℕ → List Lexeme → Type 0
AreInOrder from [] = Unit {0}
AreInOrder from (t ∷ ts) = (from ≤ t.start) × AreInOrder (t.start + length t.text) ts

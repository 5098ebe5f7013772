-- What the tokens of a text are, in the words of the formats: slices of the text, one behind another, with nothing but
-- white space and comment lines between them. A comment line is one whose first byte other than space and tab is `*`.
-- A token is a symbol (or a stray `<` or `>`) of its longest length, or a word: a longest run of other bytes, which ends
-- before white space, before a symbol and at the end of the text. (The OPB format of Roussel and Manquinho and the
-- VeriPB proof format, with white space around symbols left free.)
--
-- `lexemes` computes the tokens from the right, as a fold; here each position of the text is asked by itself. That both say
-- the same, so that a text has one list of tokens, is a law of this crate.
use Rattle.std.specs.Prelude.{◌≡◌, ℕ, zero, suc, ◌+◌, ◌<◌, ◌≤◌, Bool, true, false, ◌||◌, ◌⊎◌, if◌then◌else◌, List, [], ◌∷◌, length, drop, map}
use Rattle.pb_text.specs.declared.kind.Kind.{Kind}
use Rattle.pb_text.specs.Lexeme.{Lexeme, begins, begins_comment, symbol_length}
use Rattle.pb_text.specs.Cutting.{begins_white, begins_word}
use Rattle.pb_text.specs.Span.{StandsIn}

-- where the line begins on which a position stands: behind the last LF before it
abbrev pub line_start : List ℕ → ℕ → ℕ
line_start text zero = zero
line_start text (suc position) = if begins 10 (drop position text) then suc position else line_start text position

-- does a position stand on a comment line
abbrev pub on_comment_line : List ℕ → ℕ → Bool
on_comment_line text position = begins_comment (drop (line_start text position) text)

-- does the byte at a position part tokens: is it white space or on a comment line
abbrev pub parts_tokens : List ℕ → ℕ → Bool
parts_tokens text position = on_comment_line text position || begins_white (drop position text)

-- nothing but white space and comment lines stands from one position to another
abbrev pub IsGap : List ℕ → ℕ → ℕ → Type 0
IsGap text from to = (position : ℕ) → from ≤ position → position < to → parts_tokens text position ≡ true

-- a symbol or a stray byte of its longest length: `>=` is never cut as `>` and `=`
abbrev pub IsSymbolAt : List ℕ → ℕ → ℕ → Type 0
IsSymbolAt text start size = size ≡ symbol_length (drop start text)

-- a longest word: none of its bytes is white space or begins a symbol, and behind it stands the end, white space or a symbol
pub record IsWordAt (text : List ℕ) (start size : ℕ) : Type 0 where
  pub bytes : (k : ℕ) → k < size → begins_word (drop (start + k) text) ≡ true
  pub ends : begins_word (drop (start + size) text) ≡ false

-- a token: a slice of the text with its line and kind, no byte of which parts tokens, and a symbol or a longest word
pub record IsTokenOf (text : List ℕ) (t : Lexeme) : Type 0 where
  pub stands : StandsIn text t
  pub dense : (k : ℕ) → k < length t.text → parts_tokens text (t.start + k) ≡ false
  pub form : IsSymbolAt text t.start (length t.text) ⊎ IsWordAt text t.start (length t.text)

-- the tokens from a position on: one behind another, with gaps before them, between them and behind them
abbrev pub AreTokensFrom : List ℕ → ℕ → List Lexeme → Type 0
AreTokensFrom text from [] = IsGap text from (length text)
AreTokensFrom text from (t ∷ ts) = (from ≤ t.start) × IsGap text from t.start × IsTokenOf text t × AreTokensFrom text (t.start + length t.text) ts

-- the tokens of a text
abbrev pub AreTokensOf : List ℕ → List Lexeme → Type 0
AreTokensOf text ts = AreTokensFrom text 0 ts

-- the bytes, starts, lines and kinds of tokens, each by itself
abbrev pub texts_of : List Lexeme → List (List ℕ)
texts_of ts = map (λ (t : Lexeme). t.text) ts

abbrev pub starts_of : List Lexeme → List ℕ
starts_of ts = map (λ (t : Lexeme). t.start) ts

abbrev pub lines_of : List Lexeme → List ℕ
lines_of ts = map (λ (t : Lexeme). t.line) ts

abbrev pub kinds_of : List Lexeme → List Kind
kinds_of ts = map (λ (t : Lexeme). t.kind) ts

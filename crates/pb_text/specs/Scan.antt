-- What is found of a word in the pass that finds its end: for the contracts of the code that scans.
use Rattle.std.specs.Prelude.{◌≡◌, ℕ, ℤ, ◌+◌, ◌<◌, ◌≤◌, Bool, true, false, List, ◌∷◌, length, take, drop}
use Rattle.std.specs.List.{list_all}
use Rattle.pb_text.specs.Name.{is_digit, is_name}
use Rattle.pb_text.specs.Number.{digits_value, integer_value}
use Rattle.pb_text.specs.Said.{Says}
use Rattle.pb_text.specs.Word.{is_integer, is_literal}
use Rattle.pb_text.specs.Lexeme.{Position, kind_of, lexemes_from, lexeme_at}
use Rattle.pb_text.specs.Cutting.{begins_word, behind, IsWordFront}
use Rattle.pb_text.specs.declared.said.Said.{Said}
use Rattle.pb_text.specs.declared.scan.Scanned.{Scanned}

-- so many bytes of a word at the front of a text, each of which passes a test, and what stands behind them
pub record IsRun (test : ℕ → Bool) (n : ℕ) (text rest : List ℕ) : Type 0 where
  pub within : n + length rest ≡ length text
  pub behind : rest ≡ drop n text
  pub bytes : (k : ℕ) → k < n → begins_word (drop k text) ≡ true
  pub passed : list_all test (take n text) ≡ true

-- a word of so many digits at the front of a text, and its number
pub record AreDigits (n v : ℕ) (text : List ℕ) : Type 0 where
  pub front : IsWordFront n text
  pub some : 0 < n
  pub digits : list_all is_digit (take n text) ≡ true
  pub value : v ≡ digits_value (take n text)

-- a word of so many bytes at the front of a text that is an integer, and its number
pub record IsIntegerWord (n : ℕ) (z : ℤ) (text : List ℕ) : Type 0 where
  pub front : IsWordFront n text
  pub some : 0 < n
  pub integer : is_integer (take n text) ≡ true
  pub value : z ≡ integer_value (take n text)

-- a word of so many bytes at the front of a text that is a name
pub record IsNameWord (n : ℕ) (text : List ℕ) : Type 0 where
  pub front : IsWordFront n text
  pub some : 0 < n
  pub name : is_name (take n text) ≡ true

-- what was read of a name is so in a literal of it, with `~` before it or none
pub record IsReadName (n : ℕ) (said : Said) (text : List ℕ) : Type 0 where
  pub word : IsNameWord n text
  pub plain : Says said (take n text)
  pub negated : Says said (126 ∷ take n text)

-- a word of so many bytes at the front of a text that is a literal, and what was read of it
pub record IsLiteralWord (n : ℕ) (said : Said) (text : List ℕ) : Type 0 where
  pub front : IsWordFront n text
  pub some : 0 < n
  pub literal : is_literal (take n text) ≡ true
  pub says : Says said (take n text)

-- what was scanned is the token at the front of a text
pub record IsFirst (text : List ℕ) (s : Scanned) : Type 0 where
  pub within : s.size ≤ length text
  pub some : 0 < s.size
  pub kind : s.kind ≡ kind_of (take s.size text)
  pub says : Says s.said (take s.size text)
  pub token : (p : Position) → p.comment ≡ false →
      lexemes_from p text ≡ lexeme_at p (take s.size text) ∷ lexemes_from (behind s.size p) (drop s.size text)

-- What a reader of tokens passes where it expects something: for the contracts of the calls that pass it.
use Rattle.std.specs.Prelude.{◌≡◌, ℕ, ℤ, Bool, false, ◌||◌, ◌==◌, not, List, [], ◌∷◌, bytes_eq}
use Rattle.pb_text.specs.Lexeme.{Lexeme, kind_of, is_white}
use Rattle.pb_text.specs.Number.{integer_value}
use Rattle.pb_text.specs.Said.{Says}
use Rattle.pb_text.specs.Word.{is_negated, name_of}
use Rattle.pb_text.specs.declared.said.Said.{Said}
use Rattle.pb_text.specs.declared.kind.Kind.TheVariants as kinds
use Rattle.pb_text.specs.declared.kind.Symbol.{Symbol}

-- is the next token this word
abbrev pub is_next : List ℕ → List Lexeme → Bool
is_next word [] = false
is_next word (t ∷ rest) = bytes_eq t.text word

-- a byte that stands in words and begins no symbol, whatever follows it
abbrev pub is_plain : ℕ → Bool
is_plain b = not (is_white b || (b == 59) || (b == 58) || (b == 61) || (b == 60) || (b == 62) || (b == 45))

-- an integer was passed, and this is its number
pub record IsNumberTaken (number : ℤ) (before after : List Lexeme) : Type 0 where
  pub token : Lexeme
  pub first : before ≡ token ∷ after
  pub kind : token.kind ≡ kinds.Integer
  pub integer : kind_of token.text ≡ kinds.Integer
  pub value : number ≡ integer_value token.text

-- a literal was passed, with this sign and name, and what was read of the name
pub record IsLiteralTaken (negated : Bool) (name : List ℕ) (said : Said) (before after : List Lexeme) : Type 0 where
  pub token : Lexeme
  pub first : before ≡ token ∷ after
  pub kind : token.kind ≡ kinds.Literal
  pub literal : kind_of token.text ≡ kinds.Literal
  pub sign : negated ≡ is_negated token.text
  pub spelled : name ≡ name_of token.text
  pub says : Says said token.text

-- this symbol was passed
pub record IsSymbolTaken (symbol : Symbol) (before after : List Lexeme) : Type 0 where
  pub token : Lexeme
  pub first : before ≡ token ∷ after
  pub kind : token.kind ≡ kinds.Symbol symbol
  pub spelled : kind_of token.text ≡ kinds.Symbol symbol

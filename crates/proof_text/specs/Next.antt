-- Of the code, not of the format: what a reader of words passed, and how it is known which word that was.
use Rattle.std.specs.Prelude.{◌≡◌, ℕ, ℤ, Bool, true, false, List, [], ◌∷◌, codes}
use Rattle.pb_text.specs.Lexeme.{kind_of}
use Rattle.pb_text.specs.Number.{integer_value}
use Rattle.pb_text.specs.Said.{Says}
use Rattle.pb_text.specs.Word.{is_negated, name_of}
use Rattle.pb_text.specs.declared.kind.Kind.{Kind}
use Rattle.pb_text.specs.declared.kind.Kind.TheVariants as kinds
use Rattle.pb_text.specs.declared.kind.Symbol.{Symbol}
use Rattle.pb_text.specs.declared.said.Said.{Said}
use Rattle.linear.specs.declared.term.Lit.{Lit}
use Rattle.proof_text.specs.Kinds.{is_integer, is_literal}
use Rattle.proof_text.specs.Words.{IsSmall, is_first}
use Rattle.proof_text.specs.NamesMet.{NamesMet, met}
use Rattle.proof_text.specs.Numbering.{lit_of}

-- a word is an integer within the limit, and this is its number
pub record IsNumber (number : ℤ) (word : List ℕ) : Type 0 where
  pub integer : is_integer (kind_of word) ≡ true
  pub value : number ≡ integer_value word
  pub small : IsSmall word

-- a word is this literal, its name met
pub record IsMetLit (k : NamesMet) (lit : Lit) (new : NamesMet) (word : List ℕ) : Type 0 where
  pub literal : is_literal (kind_of word) ≡ true
  pub value : lit ≡ lit_of new.names word
  pub known : new ≡ met k (name_of word)

-- a word is a literal of this sign and name, of which this was read
pub record IsLiteral (negated : Bool) (name : List ℕ) (said : Said) (word : List ℕ) : Type 0 where
  pub literal : is_literal (kind_of word) ≡ true
  pub sign : negated ≡ is_negated word
  pub spelled : name ≡ name_of word
  pub says : Says said word

-- a word is this symbol
abbrev pub IsSymbol : Symbol → List ℕ → Type 0
IsSymbol symbol word = kind_of word ≡ kinds.Symbol symbol

-- a word is of this kind
abbrev pub IsOfKind : Kind → List ℕ → Type 0
IsOfKind kind word = kind_of word ≡ kind

-- the first of the words is such a one, and these stand behind it
pub record IsFirst (test : List ℕ → Type 0) (ws rest : List (List ℕ)) : Type 0 where
  pub word : List ℕ
  pub first : ws ≡ word ∷ rest
  pub passed : test word

-- does a literal stand first
abbrev pub begins_literal : List (List ℕ) → Bool
begins_literal [] = false
begins_literal (w ∷ rest) = is_literal (kind_of w)

-- neither `+` nor `s` stands first
pub record IsNoOperation (ws : List (List ℕ)) : Type 0 where
  pub no_addition : is_first (codes "+") ws ≡ false
  pub no_saturation : is_first (codes "s") ws ≡ false

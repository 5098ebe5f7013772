-- The grammar the other way round: which tokens write a sum, a constraint and an objective. Where `Forms` reads a piece, here
-- a problem's part says, token by token, what has to stand in its piece. That both are the same is a law of this crate, so
-- a piece gives a constraint exactly where it is written as that constraint. (The OPB format of Roussel and Manquinho.)
use Rattle.std.specs.Prelude.{◌≡◌, ℕ, ℤ, List, [], ◌∷◌, ◌++◌}
use Rattle.pb_text.specs.Lexeme.{Lexeme}
use Rattle.pb_text.specs.Number.{integer_value}
use Rattle.pb_text.specs.Word.{is_negated, name_of}
use Rattle.pb_text.specs.declared.kind.Kind.{Kind}
use Rattle.pb_text.specs.declared.kind.Kind.TheVariants as kinds
use Rattle.pb_text.specs.declared.kind.Symbol.TheVariants as symbols
use Rattle.linear.specs.Table.{place_of}
use Rattle.linear.specs.declared.term.Term.{Term}
use Rattle.linear.specs.declared.constraint.Signed.{Signed}
use Rattle.linear.specs.declared.constraint.Relation.{Relation}
use Rattle.linear.specs.declared.constraint.Relation.TheVariants.{AtLeast, Equal}

-- an integer token of this value
pub record WritesInteger (n : ℤ) (token : Lexeme) : Type 0 where
  pub kind : token.kind ≡ kinds.Integer
  pub value : integer_value token.text ≡ n

-- a literal token of the term's variable, by its name's number, and of its sign
pub record WritesLiteral (names : List (List ℕ)) (t : Term) (token : Lexeme) : Type 0 where
  pub kind : token.kind ≡ kinds.Literal
  pub name : place_of names (name_of token.text) ≡ t.var.0
  pub sign : is_negated token.text ≡ t.negated

-- a sum: for each term an integer and a literal, and nothing else
abbrev pub WritesSum : List (List ℕ) → List Term → List Lexeme → Type 0
WritesSum names [] [] = Unit {0}
WritesSum names (t ∷ ts) (a ∷ b ∷ tokens) = WritesInteger t.coef a × WritesLiteral names t b × WritesSum names ts tokens
WritesSum names _ _ = ⊥

-- `>=` or `=`
abbrev pub relation_kind : Relation → Kind
relation_kind AtLeast = kinds.Symbol symbols.AtLeast
relation_kind Equal = kinds.Symbol symbols.Equals

-- a constraint: its sum, its relation and its right side
pub record WritesConstraint (names : List (List ℕ)) (c : Signed) (piece : List Lexeme) : Type 0 where
  pub sum : List Lexeme
  pub relation : Lexeme
  pub right : Lexeme
  pub parts : piece ≡ sum ++ relation ∷ right ∷ []
  pub terms : WritesSum names c.terms sum
  pub relates : relation.kind ≡ relation_kind c.relation
  pub number : WritesInteger c.right right

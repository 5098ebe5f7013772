-- What may stand where in a problem file, by the kind of a token.
use Rattle.std.specs.Prelude.{◌≡◌, ℕ, ◌<◌, ◌&&◌, Bool, true, false, if◌then◌else◌, Option, Some, None, List, [], ◌∷◌, drop, unsigned_abs, codes, bytes_eq}
use Rattle.pb_text.specs.Lexeme.{Lexeme}
use Rattle.pb_text.specs.declared.kind.Kind.{Kind}
pub use Rattle.pb_text.specs.Kinds.{is_integer, is_literal, is_semicolon, is_colon}
use Rattle.pb_text.specs.declared.kind.Kind.TheVariants.{Symbol}
use Rattle.pb_text.specs.declared.kind.Symbol.TheVariants.{AtLeast, Equals}
use Rattle.pb_text.specs.Number.{integer_value}
use Rattle.linear.specs.Limits.{largest_integer}
use Rattle.linear.specs.declared.constraint.Relation.{Relation}
use Rattle.linear.specs.declared.constraint.Relation.TheVariants as relations

-- `>=` or `=`
abbrev pub relation_of : Kind → Option Relation
relation_of (Symbol AtLeast) = Some relations.AtLeast
relation_of (Symbol Equals) = Some relations.Equal
relation_of _ = None

-- the relation that a token of this kind is; of one that is none, `>=`
abbrev pub relation_at : Kind → Relation
relation_at (Symbol Equals) = relations.Equal
relation_at _ = relations.AtLeast

-- this word and `:` stand next
abbrev pub begins_mark : List ℕ → List Lexeme → Bool
begins_mark word [] = false
begins_mark word (a ∷ []) = false
begins_mark word (a ∷ b ∷ rest) = bytes_eq a.text word && is_colon b.kind

-- `min` and `:`, with which an objective begins
abbrev pub begins_objective : List Lexeme → Bool
begins_objective tokens = begins_mark (codes "min") tokens

-- the statements: what stands behind the mark of an objective, or all
abbrev pub statements_of : List Lexeme → List Lexeme
statements_of tokens = if begins_objective tokens then drop 2 tokens else tokens

-- an integer above the limit in size
abbrev pub IsLargeInteger : Lexeme → Type 0
IsLargeInteger t = (is_integer t.kind ≡ true) × (largest_integer < unsigned_abs (integer_value t.text))

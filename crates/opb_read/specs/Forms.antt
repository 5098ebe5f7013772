-- What the pieces of a text say: sums of terms, objectives and constraints. `names` numbers the variables.
use Rattle.std.specs.Prelude.{ℕ, ℤ, ◌&&◌, Bool, if◌then◌else◌, Option, Some, None, List, [], ◌∷◌}
use Rattle.std.specs.Option.{option_map}
use Rattle.pb_text.specs.Lexeme.{Lexeme}
use Rattle.pb_text.specs.Word.{is_negated, name_of}
use Rattle.pb_text.specs.Number.{integer_value}
use Rattle.linear.specs.Table.{place_of}
pub use Rattle.linear.specs.Table.{names_in}
use Rattle.linear.specs.declared.term.Term.{Term}
use Rattle.linear.specs.declared.constraint.Signed.{Signed}
use Rattle.linear.specs.declared.constraint.Relation.{Relation}
use Rattle.opb_read.specs.Kinds.{is_integer, is_literal, relation_of}

-- an integer and a literal
abbrev pub is_term : Lexeme → Lexeme → Bool
is_term a b = is_integer a.kind && is_literal b.kind

-- the term that they write
abbrev pub term_of : List (List ℕ) → Lexeme → Lexeme → Term
term_of names a b = record {
  coef = integer_value a.text;
  var = record { 0 = place_of names (name_of b.text) };
  negated = is_negated b.text;
}

-- the terms with which tokens begin
abbrev pub terms_of : List (List ℕ) → List Lexeme → List Term
terms_of names [] = []
terms_of names (a ∷ []) = []
terms_of names (a ∷ b ∷ rest) = if is_term a b then term_of names a b ∷ terms_of names rest else []

-- the tokens behind those terms
abbrev pub behind_terms : List Lexeme → List Lexeme
behind_terms [] = []
behind_terms (a ∷ []) = a ∷ []
behind_terms (a ∷ b ∷ rest) = if is_term a b then behind_terms rest else a ∷ b ∷ rest

-- the sum of an objective: terms alone
abbrev pub objective_of : List (List ℕ) → List Lexeme → Option (List Term)
objective_of names piece = elim (behind_terms piece) [ [] ↦ Some (terms_of names piece) | a ∷ rest ↦ None ]

-- what closes a constraint: how the sum stands to which number
pub record Closing : Type 0 where
  pub relation : Relation
  pub right : ℤ

-- a relation and an integer, and nothing behind them
abbrev pub closing_of : List Lexeme → Option Closing
closing_of (a ∷ b ∷ []) =
    if is_integer b.kind then option_map (λ r. record { relation = r; right = integer_value b.text }) (relation_of a.kind)
    else None
closing_of _ = None

-- a constraint: terms and what closes them
abbrev pub constraint_of : List (List ℕ) → List Lexeme → Option Signed
constraint_of names piece =
    option_map (λ c. record { terms = terms_of names piece; relation = c.relation; right = c.right }) (closing_of (behind_terms piece))

-- a constraint in each piece, and nothing in the last one, behind the last `;`
abbrev pub constraints_of : List (List ℕ) → List Lexeme → List (List Lexeme) → Option (List Signed)
constraints_of names piece [] = elim piece [ [] ↦ Some [] | a ∷ rest ↦ None ]
constraints_of names piece (next ∷ others) =
    elim (constraint_of names piece) [
      | None ↦ None
      | Some c ↦ option_map (λ cs. c ∷ cs) (constraints_of names next others)
    ]

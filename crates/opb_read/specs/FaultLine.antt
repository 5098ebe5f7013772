-- Where a fault stands in a text: at the first token that cannot stand in its place, or breaks a limit there. The end
-- of the text counts as a token.
use Rattle.std.specs.Prelude.{◌≡◌, ℕ, ◌≤◌, Bool, true, false, if◌then◌else◌, Option, Some, None, List, [], ◌∷◌, ◌++◌, length, All, count_by}
use Rattle.pb_text.specs.Lexeme.{Lexeme, lexemes}
pub use Rattle.pb_text.specs.Ahead.{line_of_next}
use Rattle.linear.specs.Opb.{Opb}
use Rattle.linear.specs.Limits.{most_terms, most_variables, most_constraints, IsWithin}
use Rattle.opb_read.specs.Kinds.{is_literal, begins_objective, statements_of, IsLargeInteger}
use Rattle.opb_read.specs.Pieces.{Pieces, pieces}
use Rattle.opb_read.specs.Forms.{names_in}
use Rattle.opb_read.specs.Spells.{problem_of}
use Rattle.opb_read.specs.Codes.{Tells, IsForm}
use Rattle.opb_read.specs.FaultCodes.{code_at}
use Rattle.opb_read.specs.Spots.{next_spot}
use Rattle.opb_read.specs.declared.spot.Spot.{Spot}
use Rattle.opb_read.specs.declared.spot.Spot.TheVariants.{Start, ObjectiveMark}
use Rattle.opb_read.specs.declared.fault.OpbCode.{OpbCode}

-- Some text behind these tokens makes a problem of them, with an objective at its front or with none: so their pieces
-- have their form, and the last one begins a form.
pub record CanGoOn (objective : Bool) (before : List Lexeme) : Type 0 where
  pub more : List ℕ
  pub problem : Opb
  pub says : problem_of (before ++ lexemes more) ≡ Some problem
  pub front : begins_objective (before ++ lexemes more) ≡ objective

-- has a statement begun in this piece
abbrev pub is_begun : List Lexeme → Bool
is_begun [] = false
is_begun (t ∷ rest) = true

-- the pieces of the statements
abbrev pub pieces_of : List Lexeme → List (List Lexeme)
pieces_of tokens = let p : Pieces = pieces (statements_of tokens) in p.first ∷ p.others

-- the pieces of the constraints
abbrev pub constraint_pieces : List Lexeme → List (List Lexeme)
constraint_pieces tokens = if begins_objective tokens then (pieces (statements_of tokens)).others else pieces_of tokens

-- no more terms in a statement, no more variables and no more constraints than the limits allow, in what the tokens
-- say so far
pub record AreCountsWithin (tokens : List Lexeme) : Type 0 where
  pub terms : All (λ piece. count_by (λ (t : Lexeme). is_literal t.kind) piece ≤ most_terms) (pieces_of tokens)
  pub variables : length (names_in [] (statements_of tokens)) ≤ most_variables
  pub constraints : count_by is_begun (constraint_pieces tokens) ≤ most_constraints

-- what the tokens say so far is within the limits
pub record IsWithinSoFar (tokens : List Lexeme) : Type 0 where
  pub integers : All (λ t. IsLargeInteger t → ⊥) (statements_of tokens)
  pub counts : AreCountsWithin tokens

-- the token that stands next; none at the end
abbrev pub next_token : List Lexeme → Option Lexeme
next_token [] = None
next_token (t ∷ rest) = Some t

-- Tokens that go on as `rest` does: with the same token, or with none at the end. Of what stands behind that, it
-- counts only whether `min` and `:` stand at the front of all.
pub record GoesOnAs (before rest more : List Lexeme) : Type 0 where
  pub token : next_token more ≡ next_token rest
  pub front : begins_objective (before ++ more) ≡ begins_objective (before ++ rest)

-- no tokens that go on as `rest` does make a problem of the tokens before
abbrev pub IsNoForm : List Lexeme → List Lexeme → Type 0
IsNoForm before rest = (more : List Lexeme) → GoesOnAs before rest more → problem_of (before ++ more) ≡ None

-- none make a problem within the limits
abbrev pub IsBeyondLimits : List Lexeme → List Lexeme → Type 0
IsBeyondLimits before rest = (more : List Lexeme) → GoesOnAs before rest more → (p : Opb) → problem_of (before ++ more) ≡ Some p → IsWithin p → ⊥

-- an integer stands next that may stand there and is above its limit, and it makes no count too large
pub record IsTooLarge (before rest : List Lexeme) : Type 0 where
  pub token : Lexeme
  pub next : next_token rest ≡ Some token
  pub integer : IsLargeInteger token
  pub stands : CanGoOn (begins_objective (before ++ rest)) (before ++ token ∷ [])
  pub counts : AreCountsWithin (before ++ token ∷ [])
  pub none : IsBeyondLimits before rest

-- a token stands next that may stand there and makes a count too large
pub record IsTooMany (before rest : List Lexeme) : Type 0 where
  pub token : Lexeme
  pub next : next_token rest ≡ Some token
  pub stands : CanGoOn (begins_objective (before ++ rest)) (before ++ token ∷ [])
  pub counts : AreCountsWithin (before ++ token ∷ []) → ⊥
  pub none : IsBeyondLimits before rest

-- the spot in a statement to which tokens lead, where each of them may stand in its place
abbrev pub spot_behind : Spot → List Lexeme → Option Spot
spot_behind spot [] = Some spot
spot_behind spot (t ∷ ts) = elim (next_spot spot t.kind) [ None ↦ None | Some next ↦ spot_behind next ts ]

-- the same from the front of a text on
abbrev pub spot_in_text : List Lexeme → Option Spot
spot_in_text tokens = spot_behind (if begins_objective tokens then ObjectiveMark else Start) (statements_of tokens)

-- the code is that of the token that stands next, at the spot to which the tokens before it lead
pub record IsCodeThere (code : OpbCode) (before rest : List Lexeme) : Type 0 where
  pub spot : Spot
  pub leads : spot_in_text before ≡ Some spot
  pub named : code ≡ code_at spot rest

-- A fault of this code and line: the tokens before its token begin a problem and are within the limits; with its token
-- they begin none, or (of a limit) none within the limits; a code of form is the one that the table of faults gives for
-- its token at its spot; and the line is its token's.
pub record IsFaultAt (text : List ℕ) (code : OpbCode) (line : ℕ) : Type 0 where
  pub before : List Lexeme
  pub rest : List Lexeme
  pub split : lexemes text ≡ before ++ rest
  pub begins : CanGoOn (begins_objective (before ++ rest)) before
  pub within : IsWithinSoFar before
  pub stops : Tells code (IsNoForm before rest) (IsTooLarge before rest) (IsTooMany before rest)
  pub code_is : IsForm code → IsCodeThere code before rest
  pub stands : line ≡ line_of_next text rest

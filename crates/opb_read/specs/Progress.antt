-- What reading has made of the statements so far, token by token, and where it stops. These are the words of the reader's own
-- functions; where a fault stands is said in FaultLine.
use Rattle.std.specs.Prelude.{◌≡◌, ℕ, ℤ, pos, ◌+◌, ◌≤◌, Bool, false, if◌then◌else◌, Option, Some, None, List, [], ◌∷◌, ◌++◌, length, drop, unsigned_abs, ◌<◌}
use Rattle.pb_text.specs.Lexeme.{Lexeme}
use Rattle.pb_text.specs.Number.{integer_value}
use Rattle.pb_text.specs.Word.{is_negated, name_of}
use Rattle.pb_text.specs.declared.kind.Kind.{Kind}
use Rattle.linear.specs.Limits.{largest_integer, most_terms, most_variables, most_constraints}
use Rattle.linear.specs.Table.{place_of, with_name}
use Rattle.linear.specs.declared.term.Term.{Term}
use Rattle.linear.specs.declared.constraint.Signed.{Signed}
use Rattle.linear.specs.declared.constraint.Relation as linear
use Rattle.linear.specs.declared.constraint.Relation.TheVariants as relations
use Rattle.opb_read.specs.Kinds.{begins_objective, relation_at, IsLargeInteger}
use Rattle.opb_read.specs.Spots.{next_spot, may_stand, begun}
use Rattle.opb_read.specs.Codes.{Tells}
use Rattle.opb_read.specs.FaultCodes.{code_at}
use Rattle.opb_read.specs.declared.fault.OpbCode.{OpbCode}
use Rattle.opb_read.specs.declared.fault.OpbCode.TheVariants.{IntegerTooLarge}
use Rattle.opb_read.specs.declared.spot.Spot.{Spot}
use Rattle.opb_read.specs.declared.spot.Spot.TheVariants.{Start, ObjectiveMark, ObjectiveCoefficient, ObjectiveLiteral, Coefficient, Literal, Relation, RightSide}

-- a spot, what the statements before say, and what was read of the statement that stands open: its terms, and the
-- coefficient, the relation and the right side that were read last
pub record Progress : Type 0 where
  pub spot : Spot
  pub names : List (List ℕ)
  pub objective : Option (List Term)
  pub constraints : List Signed
  pub terms : List Term
  pub coefficient : ℤ
  pub relation : linear.Relation
  pub right : ℤ

-- the constraint that stands open
abbrev pub open_constraint : Progress → Signed
open_constraint s = record { terms = s.terms; relation = s.relation; right = s.right }

-- the term of the last coefficient and of a literal of this sign and name
abbrev pub term_of_literal : Progress → Bool → List ℕ → Term
term_of_literal s negated name = record { coef = s.coefficient; var = record { 0 = place_of s.names name }; negated = negated }

-- the same of a literal as it is written
abbrev pub next_term : Progress → List ℕ → Term
next_term s word = term_of_literal s (is_negated word) (name_of word)

-- what each token adds
abbrev pub with_coefficient : Progress → List ℕ → Progress
with_coefficient s word = record s { coefficient = integer_value word }

abbrev pub with_right : Progress → List ℕ → Progress
with_right s word = record s { right = integer_value word }

abbrev pub with_relation : Progress → Kind → Progress
with_relation s k = record s { relation = relation_at k }

abbrev pub with_literal : Progress → Bool → List ℕ → Progress
with_literal s negated name = record s { names = with_name s.names name; terms = s.terms ++ term_of_literal s negated name ∷ [] }

abbrev pub with_term : Progress → List ℕ → Progress
with_term s word = with_literal s (is_negated word) (name_of word)

abbrev pub without_terms : Progress → Progress
without_terms s = record s { terms = [] }

-- behind the `;` of a constraint, or of the objective
abbrev pub closed : Spot → Progress → Progress
closed RightSide s = record s { spot = Start; constraints = s.constraints ++ open_constraint s ∷ []; terms = [] }
closed _ s = record s { spot = Start; objective = Some s.terms; terms = [] }

-- the same progress at another spot
abbrev pub at_spot : Spot → Progress → Progress
at_spot p s = record s { spot = p }

-- the progress behind a token that leads to a spot
abbrev pub moved : Progress → Lexeme → Spot → Progress
moved s t Start = closed s.spot s
moved s t ObjectiveMark = at_spot ObjectiveMark s
moved s t ObjectiveCoefficient = at_spot ObjectiveCoefficient (with_coefficient s t.text)
moved s t Coefficient = at_spot Coefficient (with_coefficient s t.text)
moved s t ObjectiveLiteral = at_spot ObjectiveLiteral (with_term s t.text)
moved s t Literal = at_spot Literal (with_term s t.text)
moved s t Relation = at_spot Relation (with_relation s t.kind)
moved s t RightSide = at_spot RightSide (with_right s t.text)

-- a literal more breaks a limit
abbrev pub IsOneTooMany : Progress → Bool → List ℕ → Type 0
IsOneTooMany s negated name = length (with_literal s negated name).names ≤ most_variables → length (with_literal s negated name).terms ≤ most_terms → ⊥

-- the code of an integer that is too large
abbrev pub IsLargeCode : List ℕ → OpbCode → Type 0
IsLargeCode word code = (code ≡ IntegerTooLarge) × (largest_integer < unsigned_abs (integer_value word))

-- a progress within the limits
pub record HoldsLimits (s : Progress) : Type 0 where
  pub variables : length s.names ≤ most_variables
  pub terms : length s.terms ≤ most_terms
  pub constraints : length s.constraints + begun s.spot ≤ most_constraints

-- one token, passed
pub record Step (s : Progress) (t : Lexeme) (q : Progress) : Type 0 where
  pub stands : next_spot s.spot t.kind ≡ Some q.spot
  pub integer : IsLargeInteger t → ⊥
  pub counts : HoldsLimits q
  pub moves : q ≡ moved s t q.spot

-- the token that stood next was passed, and what stood behind it stands next
pub record IsPassed (s : Progress) (from : List Lexeme) (q : Progress) (to : List Lexeme) : Type 0 where
  pub token : Lexeme
  pub first : from ≡ token ∷ to
  pub step : Step s token q

-- tokens, passed one by one
abbrev pub Passes : Progress → List Lexeme → Progress → Type 0
Passes s [] q = q ≡ s
Passes s (t ∷ ts) q = (r : Progress) × Step s t r × Passes r ts q

-- from one progress at the tokens `from` to another one at the tokens `to`
pub record Reaches (s : Progress) (from : List Lexeme) (q : Progress) (to : List Lexeme) : Type 0 where
  pub passed : List Lexeme
  pub split : from ≡ passed ++ to
  pub passes : Passes s passed q

-- the token that stands next may stand there, and a count is then above its limit
pub record IsOver (s : Progress) (left : List Lexeme) : Type 0 where
  pub token : Lexeme
  pub next : left ≡ token ∷ drop 1 left
  pub spot : Spot
  pub stands : next_spot s.spot token.kind ≡ Some spot
  pub breaks : HoldsLimits (moved s token spot) → ⊥

-- the token that stands next may stand there, no count is too large, and it is an integer that is
pub record IsLarge (s : Progress) (left : List Lexeme) : Type 0 where
  pub token : Lexeme
  pub next : left ≡ token ∷ drop 1 left
  pub spot : Spot
  pub stands : next_spot s.spot token.kind ≡ Some spot
  pub counts : HoldsLimits (moved s token spot)
  pub integer : IsLargeInteger token

-- the token that stands next may not stand at this spot, and has the code that the table of faults gives
pub record IsMisplaced (code : OpbCode) (spot : Spot) (left : List Lexeme) : Type 0 where
  pub stands : may_stand spot left ≡ false
  pub named : code ≡ code_at spot left

-- what a fault says of the token that stands next: it may not stand there, or (of a limit) it breaks one
abbrev pub Refuses : OpbCode → Progress → List Lexeme → Type 0
Refuses code s left = Tells code (IsMisplaced code s.spot left) (IsLarge s left) (IsOver s left)

-- reading stops with a fault at the tokens `to`
pub record StopsAt (code : OpbCode) (s : Progress) (from to : List Lexeme) : Type 0 where
  pub last : Progress
  pub reaches : Reaches s from last to
  pub refuses : Refuses code last to

-- where reading the statements begins
abbrev pub start_at : Spot → Progress
start_at p = record { spot = p; names = []; objective = None; constraints = []; terms = []; coefficient = pos 0; relation = relations.AtLeast; right = pos 0 }

abbrev pub start_of : List Lexeme → Progress
start_of tokens = start_at (if begins_objective tokens then ObjectiveMark else Start)

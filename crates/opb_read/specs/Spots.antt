-- The spots of a statement, and which tokens may stand there.
use Rattle.std.specs.Prelude.{ℕ, Bool, true, false, is_some, if◌then◌else◌, Option, Some, None, List, [], ◌∷◌}
use Rattle.pb_text.specs.Lexeme.{Lexeme}
use Rattle.pb_text.specs.declared.kind.Kind.{Kind}
use Rattle.opb_read.specs.Kinds.{is_integer, is_literal, is_semicolon, relation_of}
use Rattle.opb_read.specs.declared.spot.Spot.{Spot}
use Rattle.opb_read.specs.declared.spot.Spot.TheVariants.{Start, ObjectiveMark, ObjectiveCoefficient, ObjectiveLiteral, Coefficient, Literal, Relation, RightSide}

-- where a token of this kind brings a reader, if it may stand there
abbrev pub next_spot : Spot → Kind → Option Spot
next_spot Start k = if is_integer k then Some Coefficient else if is_some (relation_of k) then Some Relation else None
next_spot Coefficient k = if is_literal k then Some Literal else None
next_spot Literal k = if is_integer k then Some Coefficient else if is_some (relation_of k) then Some Relation else None
next_spot Relation k = if is_integer k then Some RightSide else None
next_spot RightSide k = if is_semicolon k then Some Start else None
next_spot ObjectiveMark k = if is_integer k then Some ObjectiveCoefficient else if is_semicolon k then Some Start else None
next_spot ObjectiveCoefficient k = if is_literal k then Some ObjectiveLiteral else None
next_spot ObjectiveLiteral k = if is_integer k then Some ObjectiveCoefficient else if is_semicolon k then Some Start else None

-- between two statements, where a text may end
abbrev pub is_start : Spot → Bool
is_start Start = true
is_start _ = false

-- may the token that stands next stand at this spot, or the text end there
abbrev pub may_stand : Spot → List Lexeme → Bool
may_stand p [] = is_start p
may_stand p (t ∷ rest) = is_some (next_spot p t.kind)

-- how many constraints are begun and not closed at a spot
abbrev pub begun : Spot → ℕ
begun Coefficient = 1
begun Literal = 1
begun Relation = 1
begun RightSide = 1
begun _ = 0

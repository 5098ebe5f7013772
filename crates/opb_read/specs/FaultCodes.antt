-- Which of the codes of form a token has that cannot stand in its place: the table of faults, spot by spot. In each row
-- the entries are tried in order; the end of the text counts as a token.
use Rattle.std.specs.Prelude.{◌||◌, if◌then◌else◌, Option, Some, None, List, [], ◌∷◌, codes}
use Rattle.pb_text.specs.Ahead.{next_kind}
use Rattle.pb_text.specs.Lexeme.{Lexeme, begins}
use Rattle.pb_text.specs.declared.kind.Kind.{Kind}
use Rattle.pb_text.specs.declared.kind.Kind.TheVariants as kinds
use Rattle.pb_text.specs.declared.kind.Symbol.TheVariants as symbols
use Rattle.opb_read.specs.Kinds.{begins_mark}
use Rattle.opb_read.specs.declared.fault.OpbCode.{OpbCode}
use Rattle.opb_read.specs.declared.fault.OpbCode.TheVariants.{BadToken, NoRelation, NoSemicolon, BadName, ObjectiveLate, UnsupportedForm}
use Rattle.opb_read.specs.declared.spot.Spot.{Spot}
use Rattle.opb_read.specs.declared.spot.Spot.TheVariants as spots

-- what every row ends with: the end of the text, a misspelt name, or any other token
abbrev pub other_code : Option Kind → OpbCode
other_code None = NoSemicolon
other_code (Some kinds.Misspelt) = BadName
other_code (Some _) = BadToken

-- behind a coefficient of the objective no literal stands: a constant
abbrev pub code_behind_objective_coefficient : Option Kind → OpbCode
code_behind_objective_coefficient (Some kinds.Integer) = UnsupportedForm
code_behind_objective_coefficient (Some (kinds.Symbol symbols.Semicolon)) = UnsupportedForm
code_behind_objective_coefficient next = other_code next

-- behind a literal of the objective: a product
abbrev pub code_behind_objective_literal : Option Kind → OpbCode
code_behind_objective_literal (Some kinds.Literal) = UnsupportedForm
code_behind_objective_literal next = other_code next

-- behind a literal of a constraint: a product, `<=`, or `;` before the relation
abbrev pub code_behind_literal : Option Kind → OpbCode
code_behind_literal (Some kinds.Literal) = UnsupportedForm
code_behind_literal (Some (kinds.Symbol symbols.AtMost)) = UnsupportedForm
code_behind_literal (Some (kinds.Symbol symbols.Semicolon)) = NoRelation
code_behind_literal next = other_code next

-- at the start of a statement, by the kind alone
abbrev pub code_of_kind_at_start : Option Kind → OpbCode
code_of_kind_at_start (Some (kinds.Symbol symbols.AtMost)) = UnsupportedForm
code_of_kind_at_start (Some (kinds.Symbol symbols.Semicolon)) = NoRelation
code_of_kind_at_start next = other_code next

-- at the start of a statement: `min` with `:` behind it, `max` or `soft` with it, a weight in `[`, or what the kind gives
abbrev pub code_at_start : List Lexeme → OpbCode
code_at_start [] = NoSemicolon
code_at_start (t ∷ rest) =
    if begins_mark (codes "min") (t ∷ rest) then ObjectiveLate
    else if begins_mark (codes "max") (t ∷ rest) || begins_mark (codes "soft") (t ∷ rest) then UnsupportedForm
    else if begins 91 t.text then UnsupportedForm
    else code_of_kind_at_start (Some t.kind)

-- the code of the token that stands next, or of the end, at a spot where it may not stand
abbrev pub code_at : Spot → List Lexeme → OpbCode
code_at spots.Start left = code_at_start left
code_at spots.ObjectiveMark left = other_code (next_kind left)
code_at spots.ObjectiveCoefficient left = code_behind_objective_coefficient (next_kind left)
code_at spots.ObjectiveLiteral left = code_behind_objective_literal (next_kind left)
code_at spots.Coefficient left = other_code (next_kind left)
code_at spots.Literal left = code_behind_literal (next_kind left)
code_at spots.Relation left = other_code (next_kind left)
code_at spots.RightSide left = NoSemicolon

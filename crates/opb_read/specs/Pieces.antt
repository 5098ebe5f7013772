-- Statements are closed by `;`: cutting the tokens at each `;` leaves pieces, the last one behind the last `;`.
use Rattle.std.specs.Prelude.{if◌then◌else◌, List, [], ◌∷◌}
use Rattle.pb_text.specs.Lexeme.{Lexeme}
use Rattle.opb_read.specs.Kinds.{is_semicolon}

-- the first piece, and the others in their order
pub record Pieces : Type 0 where
  pub first : List Lexeme
  pub others : List (List Lexeme)

abbrev pub pieces : List Lexeme → Pieces
pieces [] = record { first = []; others = [] }
pieces (t ∷ rest) =
    let after : Pieces = pieces rest in
    if is_semicolon t.kind then record { first = []; others = after.first ∷ after.others }
    else record { first = t ∷ after.first; others = after.others }

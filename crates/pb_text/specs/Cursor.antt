-- What a cursor of the code stands for: a position in the text, and the tokens from there on.
use Rattle.std.specs.Prelude.{◌≡◌, ℕ, ◌+◌, Bool, false, List}
use Rattle.pb_text.specs.Lexeme.{Lexeme, Position, begins_comment, lexemes_from}
use Rattle.pb_text.specs.Cutting.{begins_white}
use Rattle.pb_text.specs.declared.spot.Spot.{Spot}
use Rattle.pb_text.specs.declared.spot.Spot.TheVariants.{Front, Within}
use Rattle.pb_text.specs.declared.spot.Cursor.{Cursor}

-- is the line of the spot a comment, where `rest` follows
abbrev pub comment_at : Spot → List ℕ → Bool
comment_at Front rest = begins_comment rest
comment_at Within rest = false

abbrev pub position_of : Cursor → Position
position_of c = record { start = c.start; line = c.breaks + 1; comment = comment_at c.spot c.rest.now }

-- the tokens from a cursor on
abbrev pub ahead : Cursor → List Lexeme
ahead c = lexemes_from (position_of c) c.rest.now

-- neither white space nor a comment stands at the cursor: a token does, or the text ends
pub record IsAtToken (c : Cursor) : Type 0 where
  pub dense : begins_white c.rest.now ≡ false
  pub plain : comment_at c.spot c.rest.now ≡ false

-- The pieces behind one token more.
use Rattle.std.proofs.Common.{◌≡◌, true, false, List, [], ◌∷◌, refl}
use Rattle.pb_text.specs.Lexeme.{Lexeme}
use Rattle.opb_read.specs.Kinds.{is_semicolon}
use Rattle.opb_read.specs.Pieces.{pieces}

pub within_piece : (t : Lexeme) (rest : List Lexeme) → is_semicolon t.kind ≡ false → pieces (t ∷ rest) ≡ record { first = t ∷ (pieces rest).first; others = (pieces rest).others }
within_piece t rest e = rw e refl

pub end_of_piece : (t : Lexeme) (rest : List Lexeme) → is_semicolon t.kind ≡ true → pieces (t ∷ rest) ≡ record { first = []; others = (pieces rest).first ∷ (pieces rest).others }
end_of_piece t rest e = rw e refl

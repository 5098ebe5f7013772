-- Each token is a slice of its source, and they stand one behind another.
use Rattle.std.proofs.Common.{ℕ, ◌+◌, List, [], ◌∷◌, length}
use Rattle.std.specs.Prelude.{All}
use Rattle.std.proofs.lemmas.List.Elements.{All-nil, All-cons}
use Rattle.pb_text.specs.Lexeme.{Lexeme, lexemes}
use Rattle.pb_text.specs.Span.{StandsIn, AreInOrder}
use Rattle.pb_text.specs.TokensOf.{AreTokensFrom}
use Rattle.pb_text.proofs.TokensExist.{lexemes_are_tokens}

each_stands : (text : List ℕ) (from : ℕ) (ts : List Lexeme) → AreTokensFrom text from ts → All (StandsIn text) ts
each_stands text from [] a = All-nil (StandsIn text)
each_stands text from (t ∷ ts) a = All-cons (StandsIn text) t ts a.2.stands (each_stands text (t.start + length t.text) ts a.3)

in_order : (text : List ℕ) (from : ℕ) (ts : List Lexeme) → AreTokensFrom text from ts → AreInOrder from ts
in_order text from [] a = tt
in_order text from (t ∷ ts) a = (a.0, in_order text (t.start + length t.text) ts a.3)

pub lexemes_stand : (text : List ℕ) → All (StandsIn text) (lexemes text)
lexemes_stand text = each_stands text 0 (lexemes text) (lexemes_are_tokens text)

pub lexemes_in_order : (text : List ℕ) → AreInOrder 0 (lexemes text)
lexemes_in_order text = in_order text 0 (lexemes text) (lexemes_are_tokens text)

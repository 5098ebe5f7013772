-- What a token of the code is among the tokens of a text.
use Rattle.pb_text.specs.Lexeme.{Lexeme}
use Rattle.pb_text.specs.declared.token.Token.{Token}

-- the token as one of its text's tokens
abbrev pub lexeme_of : Token → Lexeme
lexeme_of t = record { kind = t.kind; line = t.line; start = t.start; text = t.text.now }

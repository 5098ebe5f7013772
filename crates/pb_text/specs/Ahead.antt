-- The tokens ahead of a reader: the next one, its kind and its line, and what is in sight before the rest.
use Rattle.std.specs.Prelude.{ℕ, Option, Some, None, List, [], ◌∷◌, length}
use Rattle.pb_text.specs.Lexeme.{Lexeme}
use Rattle.pb_text.specs.Span.{line_of}
use Rattle.pb_text.specs.Token.{lexeme_of}
use Rattle.pb_text.specs.declared.kind.Kind.{Kind}
use Rattle.pb_text.specs.declared.token.Token.{Token}

-- a token in sight, if there is one, and the rest
abbrev pub onto : Option Token → List Lexeme → List Lexeme
onto None rest = rest
onto (Some t) rest = lexeme_of t ∷ rest

-- the kind of the next token, if there is one
abbrev pub next_kind : List Lexeme → Option Kind
next_kind [] = None
next_kind (t ∷ rest) = Some t.kind

-- the line of the token that stands next, or of the text's end
abbrev pub line_of_next : List ℕ → List Lexeme → ℕ
line_of_next text [] = line_of text (length text)
line_of_next text (t ∷ rest) = t.line

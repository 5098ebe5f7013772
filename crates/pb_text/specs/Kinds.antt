-- Tests of a token's kind, for the grammars above.
use Rattle.std.specs.Prelude.{Bool, true, false}
use Rattle.pb_text.specs.declared.kind.Kind.{Kind}
use Rattle.pb_text.specs.declared.kind.Kind.TheVariants.{Integer, Literal, Symbol}
use Rattle.pb_text.specs.declared.kind.Symbol.TheVariants.{Semicolon, Colon}

abbrev pub is_integer : Kind → Bool
is_integer Integer = true
is_integer _ = false

abbrev pub is_literal : Kind → Bool
is_literal Literal = true
is_literal _ = false

abbrev pub is_semicolon : Kind → Bool
is_semicolon (Symbol Semicolon) = true
is_semicolon _ = false

abbrev pub is_colon : Kind → Bool
is_colon (Symbol Colon) = true
is_colon _ = false

-- What may stand where in a proof's line, by the kind of a word or symbol.
use Rattle.std.specs.Prelude.{Bool, true, false}
use Rattle.pb_text.specs.declared.kind.Kind.{Kind}
pub use Rattle.pb_text.specs.Kinds.{is_integer, is_literal, is_semicolon, is_colon}
use Rattle.pb_text.specs.declared.kind.Kind.TheVariants.{Symbol}
use Rattle.pb_text.specs.declared.kind.Symbol.TheVariants.{AtLeast, Arrow}

abbrev pub is_at_least : Kind → Bool
is_at_least (Symbol AtLeast) = true
is_at_least _ = false

abbrev pub is_arrow : Kind → Bool
is_arrow (Symbol Arrow) = true
is_arrow _ = false

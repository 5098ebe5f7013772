-- What was read of a word in the pass that found its end.
use Rattle.std.specs.Prelude.{◌≡◌, ℕ, List}
use Rattle.pb_text.specs.Number.{integer_value}
use Rattle.pb_text.specs.Word.{name_of}
use Rattle.pb_text.specs.ShortName.{IsShort}
use Rattle.pb_text.specs.declared.said.Said.{Said}
use Rattle.pb_text.specs.declared.said.Said.TheVariants as said

-- it is what the word's bytes say: the number of an integer, or that of the short name in a literal
abbrev pub Says : Said → List ℕ → Type 0
Says said.Nothing word = Unit {0}
Says (said.Number z) word = z ≡ integer_value word
Says (said.Short k) word = IsShort (name_of word) k

-- the same of the name in a literal
abbrev pub SaysName : Said → List ℕ → Type 0
SaysName (said.Short k) name = IsShort name k
SaysName _ name = Unit {0}

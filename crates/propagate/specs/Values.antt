-- The values that an assignment gives variables.
use Rattle.std.specs.Prelude.{◌≡◌, ℕ, ◌<◌, Bool, true, false, not, List, length, slice_index_or, if◌then◌else◌}
use Rattle.linear.specs.declared.term.Lit.{Lit}
use Rattle.propagate.specs.Literals.{among}
use Rattle.propagate.specs.declared.value.Value.{Value}
use Rattle.propagate.specs.declared.value.Value.TheVariants.{True, False, Free}

-- the value that a literal gives its variable
abbrev pub value_given : Lit → Value
value_given l = if l.negated then False else True

-- whether the literal of this sign is true where its variable has the value
abbrev pub makes_true : Value → Bool → Bool
makes_true True negated = not negated
makes_true False negated = negated
makes_true Free negated = false

-- each variable of the table has the value that an assignment gives it: a literal of it is listed exactly where the value makes it true
abbrev pub AreValuesUnder : List Lit → List Value → Type 0
AreValuesUnder assigned values = (v : ℕ) (negated : Bool) → v < length values → among assigned v negated ≡ makes_true (slice_index_or values v Free) negated

-- whether it is one
abbrev pub is_given : Value → Bool
is_given True = true
is_given False = true
is_given Free = false

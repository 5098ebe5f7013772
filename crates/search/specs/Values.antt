-- What a search knows of each variable.
use Rattle.std.specs.Prelude.{◌≡◌, ℕ, zero, suc, ◌+◌, ◌<◌, ◌||◌, Bool, true, false, List, slice_index_or, if◌then◌else◌}
use Rattle.linear.specs.declared.term.Lit.{Lit}
use Rattle.propagate.specs.Literals.{among}
use Rattle.propagate.specs.declared.value.Value.{Value}
use Rattle.propagate.specs.declared.value.Value.TheVariants.{True, Free}

-- the table has the variable, as a free one
abbrev pub IsFree : List Value → ℕ → Type 0
IsFree values v = slice_index_or values v True ≡ Free

-- none of so many variables is free in the table
abbrev pub NoneIsFree : List Value → ℕ → Type 0
NoneIsFree values count = (v : ℕ) → v < count → IsFree values v → ⊥

-- the variable is not listed
abbrev pub IsUnlisted : List Lit → ℕ → Type 0
IsUnlisted assigned v = (negated : Bool) → among assigned v negated ≡ false

-- how many of the first variables are not listed
abbrev pub unlisted_below : ℕ → List Lit → ℕ
unlisted_below zero assigned = 0
unlisted_below (suc v) assigned = unlisted_below v assigned + (if among assigned v false || among assigned v true then 0 else 1)

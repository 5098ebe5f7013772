-- Assignments. A valuation says of each variable whether it is true; below the names of a problem, a variable
-- is a number. A literal `x` is true where its variable is, and `~x` where it is not.
use Rattle.std.specs.Prelude.{ℕ, Bool, false, not, List, [], slice_index_or, if◌then◌else◌}

abbrev pub Valuation : Type 0
Valuation = ℕ → Bool

-- whether the literal of this variable and sign is true
abbrev pub literal_true : Valuation → ℕ → Bool → Bool
literal_true a variable negated = if negated then not (a variable) else a variable

-- the valuation that a list of truth values stands for: variables past its end are false
abbrev pub valuation_of : List Bool → Valuation
valuation_of values variable = slice_index_or values variable false

-- the valuation of a set of names, the true ones, where variables are numbered by a table of names
abbrev pub by_number : List (List ℕ) → (List ℕ → Bool) → Valuation
by_number names a variable = a (slice_index_or names variable [])

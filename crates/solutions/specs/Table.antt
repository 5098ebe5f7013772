-- The values that an assignment of literals gives variables.
use Rattle.std.specs.Prelude.{◌≡◌, ◌↔◌, ℕ, ◌<◌, ◌≤◌, Bool, true, false, not, List, Option, None, Some, length, slice_index_or}
use Rattle.linear.specs.declared.term.Lit.{Lit}
use Rattle.propagate.specs.Ids.{IdSet, HasId}
use Rattle.propagate.specs.Literals.{among, lists}
use Rattle.proof_rules.specs.Solution.{literal_for, SaysAll}

-- the assignment gives the variable this value, or none
abbrev pub GivesValue : List Lit → ℕ → Option Bool → Type 0
GivesValue assigned v None = (value : Bool) → lists assigned (literal_for v value) ≡ true → ⊥
GivesValue assigned v (Some value) = lists assigned (literal_for v value) ≡ true

-- the table has a value of each of its variables that the assignment gives one
abbrev pub IsTableOf : List Lit → List (Option Bool) → Type 0
IsTableOf assigned table = (v : ℕ) → v < length table → GivesValue assigned v (slice_index_or table v None)

-- the assignment gives each of the first `count` variables a value, and these are they
abbrev pub GivesAll : ℕ → List Lit → List Bool → Type 0
GivesAll count assigned g = (length g ≡ count) × SaysAll assigned g

-- some of the first `count` variables stands in the assignment with neither sign
abbrev pub LeavesOut : ℕ → List Lit → Type 0
LeavesOut count assigned = (v : ℕ) × (v < count) × ((value : Bool) → lists assigned (literal_for v value) ≡ true → ⊥)

-- some variable of a table has no value
abbrev pub HasGap : List (Option Bool) → Type 0
HasGap table = (v : ℕ) × (v < length table) × (slice_index_or table v None ≡ None)

-- a set has the variables from a number on that the assignment has with this sign
abbrev pub IsSideOf : List Lit → ℕ → Bool → IdSet → Type 0
IsSideOf assigned from negated ids = (v : ℕ) → from ≤ v → HasId ids v ↔ (among assigned v negated ≡ true)

-- the two sets have those that stand plain in the assignment, and those that stand negated
abbrev pub AreSidesOf : List Lit → ℕ → IdSet → IdSet → Type 0
AreSidesOf assigned from plain negated = IsSideOf assigned from false plain × IsSideOf assigned from true negated

-- the table gives the literal's variable the value that makes it true, or it is beyond the table, and its opposite is not listed
abbrev pub Agrees : List (Option Bool) → List Lit → ℕ → Bool → Type 0
Agrees table assigned v negated =
    (v < length table → slice_index_or table v None ≡ Some (not negated)) × (length table ≤ v → among assigned v (not negated) ≡ true → ⊥)

-- Sets of ids.
use Rattle.std.specs.Prelude.{ℕ, ◌≤◌, IsTrue}
use Rattle.std.specs.FinSet as set
use Rattle.std.specs.Ordering.{nat_cmp}

-- a finite set of ids
abbrev pub IdSet : Type 0
IdSet = set.FinSet nat_cmp

-- the set has the id
abbrev pub HasId : IdSet → ℕ → Type 0
HasId ids id = IsTrue (set.contains ids id)

-- the set has the id, and none below it
abbrev pub IsLeastId : IdSet → ℕ → Type 0
IsLeastId ids id = HasId ids id × ((k : ℕ) → HasId ids k → id ≤ k)

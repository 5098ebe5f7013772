-- Places by ids.
use Rattle.std.specs.Prelude.{◌≡◌, ℕ, ◌<◌, ◌≤◌, List, Option, None, Some}
use Rattle.std.specs.BTreeMap.{is_at}
use Rattle.std.specs.Map.{lookup}
use Rattle.std.specs.Ordering.{nat_cmp}

-- the place of an id
abbrev pub place_of : List (ℕ × ℕ) → ℕ → Option ℕ
place_of places id = lookup (is_at (nat_cmp id)) places

-- the least id above another that has a place
abbrev pub IsNextPlaced : List (ℕ × ℕ) → ℕ → ℕ → Type 0
IsNextPlaced places id next = (id < next) × ((k : ℕ) × (place_of places next ≡ Some k)) × ((q : ℕ) → id < q → q < next → place_of places q ≡ None)

-- the least one from another on that has a place
abbrev pub IsFirstPlaced : List (ℕ × ℕ) → ℕ → ℕ → Type 0
IsFirstPlaced places from next = (from ≤ next) × ((k : ℕ) × (place_of places next ≡ Some k)) × ((q : ℕ) → from ≤ q → q < next → place_of places q ≡ None)

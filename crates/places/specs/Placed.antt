-- A table by id, in rows: the number behind the place of each, and zero where an id has none.
use Rattle.std.specs.Prelude.{◌≡◌, ◌≤◌, ℕ, zero, suc, ◌+◌, List, [], ◌∷◌, ◌++◌, Option, None, Some, map, slice_index_or}
use Rattle.places.specs.Places.{place_of}

-- the place that stands before a number
abbrev pub before : ℕ → Option ℕ
before zero = None
before (suc place) = Some place

-- how many places stand before a number
abbrev pub one_if_placed : ℕ → ℕ
one_if_placed zero = 0
one_if_placed (suc place) = 1

-- the ids that have a place, with it
abbrev pub entries_from : ℕ → List ℕ → List (ℕ × ℕ)
entries_from id [] = []
entries_from id (zero ∷ ns) = entries_from (id + 1) ns
entries_from id (suc place ∷ ns) = (id, place) ∷ entries_from (id + 1) ns

-- the same of rows of 1,024 ids each, whose entries stand by their offsets
abbrev pub rows_from : ℕ → List (List (ℕ × ℕ)) → List (ℕ × ℕ)
rows_from first [] = []
rows_from first (row ∷ rows) = map (λ e. (first + e.0, e.1)) row ++ rows_from (first + 1024) rows

-- no row has more than 1,024 ids
abbrev pub AreRows : List (List (ℕ × ℕ)) → Type 0
AreRows rows = (r offset : ℕ) → 1024 ≤ offset → place_of (slice_index_or rows r []) offset ≡ None

-- The ids of the constraints that have a literal.
use Rattle.std.specs.Prelude.{◌↔◌, ◌⊎◌, ℕ, List, [], ◌∷◌, Option, None, Contains, is_some, if◌then◌else◌, map, slice_index_or}
use Rattle.propagate.specs.Ids.{HasId, IdSet}
use Rattle.normal_form.specs.Normal.{NormalConstraint}
use Rattle.occurrences.specs.declared.occurrence.Occurrence.{Occurrence}

-- the places of entries, where a constraint is there
abbrev pub live_places : List (Option NormalConstraint) → List Occurrence → List ℕ
live_places slots [] = []
live_places slots (o ∷ os) = if is_some (slice_index_or slots o.place None) then o.place ∷ live_places slots os else live_places slots os

-- the ids of places
abbrev pub ids_at : List ℕ → List ℕ → List ℕ
ids_at ids = map (λ k. slice_index_or ids k 0)

-- a set has these ids beside those that another set has, and no more
abbrev pub AreAdded : List ℕ → IdSet → IdSet → Type 0
AreAdded lent before ids = (id : ℕ) → HasId ids id ↔ (HasId before id ⊎ Contains lent id)

-- Constraints by their ids, where each id has a place.
use Rattle.std.specs.Prelude.{◌≡◌, ℕ, List, Option, None, Some, length, map, slice_index_or}
use Rattle.std.specs.FinMap as fin
use Rattle.normal_form.specs.Normal.{NormalConstraint}
use Rattle.propagate.specs.Content.{Content}
use Rattle.places.specs.Places.{place_of}
use Rattle.ledger.specs.Ledgers.{constraint_at, shown}

-- the constraints by their ids
abbrev pub content_at : List (Option NormalConstraint) → List (ℕ × ℕ) → Content
content_at slots places = fin.from_entries (map (λ e. (e.0, constraint_at (shown slots) e.1)) places)

-- each id has a place with a constraint, and each constraint an id
pub record AreNamed (places : List (ℕ × ℕ)) (ids : List ℕ) (slots : List (Option NormalConstraint)) : Type 0 where
  pub as_many : length ids ≡ length slots
  pub live : (id k : ℕ) → place_of places id ≡ Some k → (n : NormalConstraint) × (slice_index_or slots k None ≡ Some n) × (slice_index_or ids k 0 ≡ id)
  pub named : (k : ℕ) (n : NormalConstraint) → slice_index_or slots k None ≡ Some n → place_of places (slice_index_or ids k 0) ≡ Some k

-- What stands at the bottom of the trail: what is forced from nothing.
use Rattle.std.specs.Prelude.{◌≡◌, ℕ, List, Option, Some, length, map}
use Rattle.ledger.specs.Ledgers.{State, shown}
use Rattle.watch.specs.Looking.{AreLookedAt}

-- each literal that is taken as true was forced
abbrev pub AllForced : List (Option ℕ) → Type 0
AllForced reasons = (places : List ℕ) × (reasons ≡ map Some places)

-- the literals are forced from nothing, and what does not wait is quiet
pub record IsRoot (s : State) (waiting : List ℕ) (count : ℕ) : Type 0 where
  pub places : count ≡ length s.slots
  pub looked_at : AreLookedAt (shown s.slots) s.propagated waiting
  pub forced : AllForced s.reasons

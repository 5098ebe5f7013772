-- Given literals that are kept between calls, one above the other, each with what is forced then.
use Rattle.std.specs.Prelude.{◌≡◌, ℕ, ◌<◌, ◌≤◌, List, Option, None, Some, MatchOption, length, slice_index_or, take}
use Rattle.linear.specs.declared.term.Lit.{Lit}
use Rattle.normal_form.specs.Normal.{NormalConstraint}
use Rattle.propagate.specs.Chain.{IsFixpoint}
use Rattle.propagate.specs.Walk.{IsFalsifiedAt, IsQuiet}
use Rattle.watch.specs.declared.assumed.Assumed.{Assumed}
use Rattle.watch.specs.declared.assumed.Assumed.TheVariants as outcomes
use Rattle.watch.specs.Givens.{HasAll}
use Rattle.ledger.specs.Ledgers.{State, constraint_at, shown}
use Rattle.watch.specs.Looking.{AreLookedAt}
use Rattle.watch.specs.Steps.{AreGiven, Clashes}

-- below a height stand these given literals, and else only forced ones
pub record IsLevel (assigned : List Lit) (reasons : List (Option ℕ)) (given : List Lit) (height : ℕ) : Type 0 where
  pub low : height ≤ length assigned
  pub has_given : HasAll given (take height assigned)
  pub others_forced : AreGiven (take height assigned) (take height reasons) given

-- where the literal of a level begins; behind the last one is the end of the trail
abbrev pub height_of : List Lit → List ℕ → ℕ → ℕ
height_of assigned heights level = slice_index_or heights level (length assigned)

-- the given literals and where each begins
pub record AreLevels (assigned : List Lit) (reasons : List (Option ℕ)) (given : List Lit) (heights : List ℕ) : Type 0 where
  pub as_many : length heights ≡ length given
  pub levels : (j : ℕ) → j ≤ length given → IsLevel assigned reasons (take j given) (height_of assigned heights j)
  pub rise : (i j : ℕ) → i ≤ j → j ≤ length given → height_of assigned heights i ≤ height_of assigned heights j

-- Of the constraints that were there when a level began, so many were quiet under what stood below it, all propagated. Since then
-- constraints only came, so they are quiet under it still.
pub record AreSettled (constraints : List NormalConstraint) (propagated : List Lit) (heights counts : List ℕ) : Type 0 where
  pub as_many : length counts ≡ length heights
  pub settled : (j k : ℕ) → k < slice_index_or counts j 0
      → (k < length constraints) × (slice_index_or heights j 0 ≤ length propagated) × IsQuiet (take (slice_index_or heights j 0) propagated) (constraint_at constraints k)

-- what is kept between calls: what does not wait is looked at, and what is not given is forced
pub record IsKept (s : State) (levels : List Lit × List ℕ × List ℕ) (waiting : List ℕ) (count : ℕ) : Type 0 where
  pub places : count ≡ length s.slots
  pub looked_at : AreLookedAt (shown s.slots) s.propagated waiting
  pub levels_are : AreLevels s.assigned s.reasons levels.0 levels.1
  pub settled : AreSettled (shown s.slots) s.propagated levels.1 levels.2

-- what assuming given literals came to
abbrev pub IsAssumed : List NormalConstraint → List Lit → List Lit → Assumed → Type 0
IsAssumed constraints given assigned outcomes.Whole = HasAll given assigned × IsFixpoint constraints assigned
IsAssumed constraints given assigned (outcomes.Falsified place) = IsFalsifiedAt constraints assigned place
IsAssumed constraints given assigned outcomes.Clash = Clashes given assigned

-- the place of what is falsified, if the way up ended there
abbrev pub falsified_place : Assumed → Option ℕ
falsified_place outcomes.Whole = None
falsified_place (outcomes.Falsified place) = Some place
falsified_place outcomes.Clash = None

-- all is propagated, or the constraint at this place is falsified
abbrev pub IsFixpointOrFalsified : List NormalConstraint → List Lit → Option ℕ → Type 0
IsFixpointOrFalsified constraints assigned falsified = MatchOption falsified (IsFixpoint constraints assigned) (IsFalsifiedAt constraints assigned)

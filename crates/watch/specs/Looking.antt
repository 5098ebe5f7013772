-- Constraints that are still to be looked at, and what a walk adds.
use Rattle.std.specs.Prelude.{◌≡◌, ℕ, ◌<◌, ◌⊎◌, Bool, true, false, List, Option, ◌++◌, Some, MatchOption, Contains, length, map, take}
use Rattle.linear.specs.declared.term.Lit.{Lit}
use Rattle.normal_form.specs.Normal.{NormalConstraint}
use Rattle.propagate.specs.Chain.{IsChain}
use Rattle.propagate.specs.Slack.{IsFalsified}
use Rattle.propagate.specs.Walk.{IsFalsifiedAt, IsQuiet}
use Rattle.ledger.specs.Ledgers.{State, constraint_at, shown}

-- each constraint that does not wait is not falsified and forces nothing
abbrev pub AreLookedAt : List NormalConstraint → List Lit → List ℕ → Type 0
AreLookedAt constraints assigned waiting =
    (k : ℕ) → k < length constraints → IsQuiet assigned (constraint_at constraints k) ⊎ Contains waiting k

-- an assignment goes on by a chain of forced literals
abbrev pub IsContinued : List NormalConstraint → List Lit → List Lit → Type 0
IsContinued constraints given assigned = (chain : List Lit) × IsChain constraints given chain × (assigned ≡ given ++ chain)

-- a ledger's literals go on by a chain of forced literals, each with its reason; nothing else changes
pub record GoesOn (old new : State) : Type 0 where
  pub slots : new.slots ≡ old.slots
  pub variables : new.variables ≡ old.variables
  pub assigned : IsContinued (shown old.slots) old.assigned new.assigned
  pub reasons : (places : List ℕ) × (new.reasons ≡ old.reasons ++ map Some places)

-- the constraint at a place is falsified, or it forces nothing more
abbrev pub IsForcedOut : List NormalConstraint → List Lit → ℕ → Bool → Type 0
IsForcedOut constraints assigned place true = IsFalsified assigned (constraint_at constraints place)
IsForcedOut constraints assigned place false = IsQuiet assigned (constraint_at constraints place)

-- more literals were propagated; what was quiet is quiet, or waits
pub record PropagatesOn (old new : State) (waiting later : List ℕ) : Type 0 where
  pub same : new ≡ record old { propagated = new.propagated }
  pub first : take (length old.propagated) new.propagated ≡ old.propagated
  pub looked_at : (k : ℕ) → IsQuiet old.propagated (constraint_at (shown old.slots) k) → IsQuiet new.propagated (constraint_at (shown old.slots) k) ⊎ Contains later k
  pub kept : (k : ℕ) → Contains waiting k → Contains later k

-- all literals were propagated, or a constraint is falsified, whose place this is
abbrev pub IsPropagationEnd : State → Option ℕ → Type 0
IsPropagationEnd s falsified = MatchOption falsified (s.propagated ≡ s.assigned) (IsFalsifiedAt (shown s.slots) s.assigned)

-- the constraint at a place was looked at, and what it forces was propagated: it no longer waits, or one is falsified, whose place this is
abbrev pub IsVisited : List NormalConstraint → State → List ℕ → Option ℕ → Type 0
IsVisited constraints s waiting falsified = MatchOption falsified ((s.propagated ≡ s.assigned) × AreLookedAt constraints s.propagated waiting) (IsFalsifiedAt constraints s.assigned)

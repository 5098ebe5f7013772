-- Literals that are given beside those that are there, and what comes of them.
use Rattle.std.specs.Prelude.{◌≡◌, ℕ, ◌≤◌, Bool, true, List, [], ◌∷◌, ◌++◌, Option, None, Some, length, map, take}
use Rattle.linear.specs.declared.term.Lit.{Lit}
use Rattle.normal_form.specs.Normal.{NormalConstraint}
use Rattle.propagate.specs.Chain.{IsClosure, IsFixpoint}
use Rattle.propagate.specs.Literals.{among, lists}
use Rattle.ledger.specs.Ledgers.{State}

-- some of these literals are added, with whatever reasons; nothing else changes
pub record IsGiven (old new : State) (given : List Lit) : Type 0 where
  pub slots : new.slots ≡ old.slots
  pub variables : new.variables ≡ old.variables
  pub added : List Lit
  pub assigned : new.assigned ≡ old.assigned ++ added
  pub reasons : (rest : List (Option ℕ)) × (new.reasons ≡ old.reasons ++ rest) × (length rest ≡ length added)
  pub within : (v : ℕ) (s : Bool) → among added v s ≡ true → among given v s ≡ true

-- one literal is added, without a reason
pub record IsPushed (old new : State) (literal : Lit) : Type 0 where
  pub assigned : new.assigned ≡ old.assigned ++ literal ∷ []
  pub reasons : new.reasons ≡ old.reasons ++ None ∷ []

-- one literal is added without a reason, and behind it what it forces, each with its reason
pub record IsDecided (old new : State) (literal : Lit) : Type 0 where
  pub chain : List Lit
  pub assigned : new.assigned ≡ (old.assigned ++ literal ∷ []) ++ chain
  pub places : List ℕ
  pub reasons : new.reasons ≡ (old.reasons ++ None ∷ []) ++ map Some places

-- each literal of the one is in the other
abbrev pub HasAll : List Lit → List Lit → Type 0
HasAll given assigned = (l : Lit) → lists given l ≡ true → lists assigned l ≡ true

-- what was there is there still, below what came
pub record Overlies (old new : State) : Type 0 where
  pub slots : new.slots ≡ old.slots
  pub literals : take (length old.assigned) new.assigned ≡ old.assigned
  pub long : length old.assigned ≤ length new.assigned
  pub reasons : take (length old.assigned) new.reasons ≡ old.reasons

-- the assignment is where all chains from what is given end, none in a conflict
pub record IsWholeEnd (constraints : List NormalConstraint) (given assigned : List Lit) : Type 0 where
  pub fixpoint : IsFixpoint constraints assigned
  pub has_given : HasAll given assigned
  pub closure : IsClosure constraints given assigned

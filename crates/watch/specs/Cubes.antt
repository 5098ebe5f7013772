-- Constraints that ask for all their literals.
use Rattle.std.specs.Prelude.{◌≡◌, ◌<◌, ◌++◌, ℕ, All, Bool, true, false, List, Option, slice_index_or}
use Rattle.linear.specs.declared.term.Lit.{Lit}
use Rattle.normal_form.specs.declared.term.NormalTerm.{NormalTerm}
use Rattle.normal_form.specs.Normal.{NormalConstraint, Rises, total}
use Rattle.propagate.specs.Chain.{IsConflict}
use Rattle.propagate.specs.Literals.{coefficient_of, lists}
use Rattle.propagate.specs.Passes.{literal_of}
use Rattle.propagate.specs.Slack.{IsFalsified}
use Rattle.ledger.specs.Ledgers.{State}
use Rattle.watch.specs.Looking.{IsContinued}

-- the literals, each of its own variable, must add up to as much as all of them have: each must be true
pub record IsCube (n : NormalConstraint) : Type 0 where
  pub whole : total n.terms ≡ n.degree
  pub rises : Rises 0 n.terms

-- each literal of the constraint is assigned
abbrev pub IsAllAssigned : List Lit → NormalConstraint → Type 0
IsAllAssigned assigned n = (l : Lit) → 0 < coefficient_of n l → lists assigned l ≡ true

-- a cube is falsified, or all its literals are assigned
abbrev pub IsCubeEnd : List Lit → NormalConstraint → Bool → Type 0
IsCubeEnd assigned n true = IsFalsified assigned n
IsCubeEnd assigned n false = IsAllAssigned assigned n

-- more literals are assigned, with whatever reasons: a chain of what the constraints force. None is propagated yet.
pub record IsGivenBy (constraints : List NormalConstraint) (old new : State) : Type 0 where
  pub slots : new.slots ≡ old.slots
  pub propagated : new.propagated ≡ old.propagated
  pub assigned : IsContinued constraints old.assigned new.assigned
  pub reasons : (rest : List (Option ℕ)) × (new.reasons ≡ old.reasons ++ rest)

-- a cube is falsified, or the literal of one of its terms is assigned
abbrev pub IsTermEnd : List Lit → NormalConstraint → ℕ → Bool → Type 0
IsTermEnd assigned n index true = IsFalsified assigned n
IsTermEnd assigned n index false = (d : NormalTerm) → lists assigned (literal_of (slice_index_or n.terms index d)) ≡ true

-- one of the cubes is falsified, or all their literals are assigned
abbrev pub AreCubesEnd : List Lit → List NormalConstraint → Bool → Type 0
AreCubesEnd assigned cubes true = IsConflict cubes assigned
AreCubesEnd assigned cubes false = All (IsAllAssigned assigned) cubes

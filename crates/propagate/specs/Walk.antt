-- Chains with their reasons. The constraints are numbered by their places in a list.
use Rattle.std.specs.Prelude.{◌≡◌, ℕ, ◌<◌, false, List, [], ◌∷◌, ◌++◌, length, map, slice_index_or}
use Rattle.linear.specs.declared.term.Lit.{Lit}
use Rattle.normal_form.specs.Normal.{NormalConstraint}
use Rattle.propagate.specs.declared.forced.Forced.{Forced}
use Rattle.linear.specs.Literal.{opposite}
use Rattle.propagate.specs.Literals.{lists}
use Rattle.propagate.specs.Slack.{IsFalsified, IsForced}

-- the constraint at a place is this one
abbrev pub StandsAt : List NormalConstraint → ℕ → NormalConstraint → Type 0
StandsAt constraints place n = (place < length constraints) × (slice_index_or constraints place n ≡ n)

-- the constraint at a place is falsified
abbrev pub IsFalsifiedAt : List NormalConstraint → List Lit → ℕ → Type 0
IsFalsifiedAt constraints assigned place = (n : NormalConstraint) × StandsAt constraints place n × IsFalsified assigned n

-- the constraint at the place of the reason forces the literal
abbrev pub IsForcedStep : List NormalConstraint → List Lit → Forced → Type 0
IsForcedStep constraints assigned step = (n : NormalConstraint) × StandsAt constraints step.reason n × IsForced assigned step.literal n

-- each literal is forced in the constraint of its reason under what is given and those before it
abbrev pub IsReasonedChain : List NormalConstraint → List Lit → List Forced → Type 0
IsReasonedChain constraints given [] = Unit {0}
IsReasonedChain constraints given (s ∷ ss) = IsForcedStep constraints given s × IsReasonedChain constraints (given ++ s.literal ∷ []) ss

-- the literals of a chain with its reasons
abbrev pub literals_of : List Forced → List Lit
literals_of = map (λ s. s.literal)

-- a constraint that is not falsified and forces nothing
abbrev pub IsQuiet : List Lit → NormalConstraint → Type 0
IsQuiet assigned n = (IsFalsified assigned n → ⊥) × ((l : Lit) → IsForced assigned l n → ⊥)

-- a literal with this coefficient is forced where the slack is this: it is unset, and the coefficient is above the slack
abbrev pub CanForce : List Lit → ℕ → ℕ → Lit → Type 0
CanForce assigned slack coef l = (slack < coef) × (lists assigned l ≡ false) × (lists assigned (opposite l) ≡ false)

-- a walk has gone on: by steps with their reasons, which stand at the end of assignment and steps
abbrev pub GoesOn : List NormalConstraint → List Lit → List Forced → List Lit → List Forced → Type 0
GoesOn constraints assigned steps later more =
    (added : List Forced) × IsReasonedChain constraints assigned added × (later ≡ assigned ++ literals_of added) × (more ≡ steps ++ added)

-- one constraint, which stands at this place, forces each literal under the assignment and those before it
abbrev pub AreForcedBy : NormalConstraint → ℕ → List Lit → List Forced → Type 0
AreForcedBy n place assigned [] = Unit {0}
AreForcedBy n place assigned (s ∷ ss) = (s.reason ≡ place) × IsForced assigned s.literal n × AreForcedBy n place (assigned ++ s.literal ∷ []) ss

-- a walk has gone on by what one constraint forces
abbrev pub GoesOnBy : NormalConstraint → ℕ → List Lit → List Forced → List Lit → List Forced → Type 0
GoesOnBy n place assigned steps later more =
    (added : List Forced) × AreForcedBy n place assigned added × (later ≡ assigned ++ literals_of added) × (more ≡ steps ++ added)

-- Chains with the places of their reasons.
use Rattle.std.specs.Prelude.{◌≡◌, ℕ, ◌<◌, true, false, List, [], ◌∷◌, ◌++◌, Option, None, Some, MatchOption, length, map, slice_index_or}
use Rattle.std.specs.Option.{option_map}
use Rattle.linear.specs.declared.term.Lit.{Lit}
use Rattle.normal_form.specs.Normal.{NormalConstraint}
use Rattle.propagate.specs.declared.trace.Trace.{Trace}
use Rattle.propagate.specs.Chain.{IsFixpoint}
use Rattle.linear.specs.Literal.{opposite}
use Rattle.propagate.specs.Literals.{lists}
use Rattle.propagate.specs.Walk.{IsFalsifiedAt}
use Rattle.watch.specs.declared.chain.Step.{Step}
use Rattle.watch.specs.declared.chain.Chain.{Chain}
use Rattle.watch.specs.Givens.{HasAll}
use Rattle.ledger.specs.Ledgers.{IsReason, State}

-- each literal is forced by the constraint at its place under what is given and those before it
abbrev pub AreSteps : List NormalConstraint → List Lit → List Step → Type 0
AreSteps constraints given [] = Unit {0}
AreSteps constraints given (s ∷ ss) = IsReason constraints given s.literal (Some s.place) × AreSteps constraints (given ++ s.literal ∷ []) ss

-- the literals without their places
abbrev pub literals_of : List Step → List Lit
literals_of = map (λ s. s.literal)

-- a chain from what is given, to a constraint that is falsified, or to the end
pub record IsFound (constraints : List NormalConstraint) (given : List Lit) (c : Chain) : Type 0 where
  pub chain : AreSteps constraints given c.steps.items
  pub end : MatchOption c.falsified (IsFixpoint constraints (given ++ literals_of c.steps.items)) (IsFalsifiedAt constraints (given ++ literals_of c.steps.items))

-- the same from some literals and one more behind them, where what follows from those before it may be left out
pub record IsFoundOfLast (constraints : List NormalConstraint) (before : List Lit) (last : Lit) (c : Chain) : Type 0 where
  pub left_out : List Step
  pub chain : AreSteps constraints before left_out
  pub found : IsFound constraints ((before ++ literals_of left_out) ++ last ∷ []) c

-- a literal without a reason is a given one
abbrev pub AreGiven : List Lit → List (Option ℕ) → List Lit → Type 0
AreGiven assigned reasons given = (k : ℕ) (d : Lit) → k < length assigned → slice_index_or reasons k None ≡ None → lists given (slice_index_or assigned k d) ≡ true

-- what is on the trail stands on these literals: they are all there, and what is there besides has a reason
pub record Underlies (given : List Lit) (s : State) : Type 0 where
  pub all : HasAll given s.assigned
  pub others : AreGiven s.assigned s.reasons given

-- the first literals of a trail, told as steps from what is given: those that are not given themselves
pub record IsTold (constraints : List NormalConstraint) (given trail : List Lit) (steps : List Step) : Type 0 where
  pub chain : AreSteps constraints given steps
  pub inside : HasAll (literals_of steps) trail
  pub covers : HasAll trail (given ++ literals_of steps)
  pub free : (l : Lit) → lists trail l ≡ true → lists given (opposite l) ≡ false

-- some steps lead to a constraint that is falsified
pub record LeadsTo (constraints : List NormalConstraint) (given : List Lit) (steps : List Step) (place : ℕ) : Type 0 where
  pub chain : AreSteps constraints given steps
  pub falsified : IsFalsifiedAt constraints (given ++ literals_of steps) place

-- what was told of a trail: all of it, or as far as to a falsified constraint
abbrev pub IsToldTo : List NormalConstraint → List Lit → List Lit → Chain → Type 0
IsToldTo constraints given trail c = MatchOption c.falsified (IsTold constraints given trail c.steps.items) (LeadsTo constraints given c.steps.items)

-- a given literal whose opposite is listed
abbrev pub Clashes : List Lit → List Lit → Type 0
Clashes given assigned = (l : Lit) × (lists given l ≡ true) × (lists assigned (opposite l) ≡ true)

-- a step with the id of the constraint at its place
abbrev pub step_named : List ℕ → Step → Lit × ℕ
step_named ids s = (s.literal, slice_index_or ids s.place 0)

-- a trace tells a chain, with ids for places
pub record IsTraceOf (ids : List ℕ) (c : Chain) (t : Trace) : Type 0 where
  pub forced : t.forced ≡ map (step_named ids) c.steps.items
  pub conflict : t.conflict ≡ option_map (λ place. slice_index_or ids place 0) c.falsified

-- Chains of forced literals, and what they lead to: unit propagation, as the VeriPB format understands it for
-- pseudo-Boolean constraints, where a constraint may force a literal although others of its literals are unset.
--
-- A program keeps a queue and runs it to its end. The definition says only that some list of literals exists, each
-- forced in some constraint under what stands before it; in which order literals are forced is left open, since laws
-- say that it does not matter. The constraints are a list, of which only the members count: a law in a contract can
-- range over lists of constraints, and over predicates on them it cannot.
use Rattle.std.specs.Prelude.{◌≡◌, true, ◌↔◌, ◌⊎◌, List, [], ◌∷◌, ◌++◌, Any}
use Rattle.linear.specs.declared.term.Lit.{Lit}
use Rattle.normal_form.specs.Normal.{NormalConstraint}
use Rattle.propagate.specs.Literals.{lists, Contradicts}
use Rattle.propagate.specs.Slack.{IsFalsified, IsForced}

-- some constraint forces the literal
abbrev pub IsForcedByOne : List NormalConstraint → List Lit → Lit → Type 0
IsForcedByOne constraints assigned l = Any (IsForced assigned l) constraints

-- some constraint has negative slack
abbrev pub IsConflict : List NormalConstraint → List Lit → Type 0
IsConflict constraints assigned = Any (IsFalsified assigned) constraints

-- literals, each forced in some constraint under what is given and those before it
abbrev pub IsChain : List NormalConstraint → List Lit → List Lit → Type 0
IsChain constraints given [] = Unit {0}
IsChain constraints given (l ∷ ls) = IsForcedByOne constraints given l × IsChain constraints (given ++ l ∷ []) ls

-- a chain from what is given leads to a constraint with negative slack
abbrev pub LeadsToConflict : List NormalConstraint → List Lit → Type 0
LeadsToConflict constraints given = (chain : List Lit) × IsChain constraints given chain × IsConflict constraints (given ++ chain)

-- a chain from nothing leads to a constraint with negative slack
abbrev pub IsRefuted : List NormalConstraint → Type 0
IsRefuted constraints = LeadsToConflict constraints []

-- a chain after which nothing more is forced
pub record IsWholeChain (constraints : List NormalConstraint) (given chain : List Lit) : Type 0 where
  pub chain_is : IsChain constraints given chain
  pub ends : (l : Lit) → IsForcedByOne constraints (given ++ chain) l → ⊥

-- an assignment from which nothing more is forced, and in which no constraint has negative slack
pub record IsFixpoint (constraints : List NormalConstraint) (assigned : List Lit) : Type 0 where
  pub nothing_forced : (l : Lit) → IsForcedByOne constraints assigned l → ⊥
  pub no_conflict : IsConflict constraints assigned → ⊥

-- a literal that is given, or that stands in a chain from what is given
abbrev pub IsReached : List NormalConstraint → List Lit → Lit → Type 0
IsReached constraints given l =
    (lists given l ≡ true) ⊎ ((chain : List Lit) × IsChain constraints given chain × (lists chain l ≡ true))

-- an assignment of exactly the literals that are given or forced
abbrev pub IsClosure : List NormalConstraint → List Lit → List Lit → Type 0
IsClosure constraints given closed = (l : Lit) → (lists closed l ≡ true) ↔ IsReached constraints given l

-- no assignment of these literals is to be had: it has a literal and its opposite, or a chain from it leads to a conflict
abbrev pub IsImpossible : List NormalConstraint → List Lit → Type 0
IsImpossible constraints given = Contradicts given ⊎ LeadsToConflict constraints given

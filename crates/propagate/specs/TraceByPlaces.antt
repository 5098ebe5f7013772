-- Traces told by the places of constraints in a list. The private functions that trace speak of this.
use Rattle.std.specs.Prelude.{◌≡◌, ℕ, List, ◌++◌, map, Option, MatchOption, slice_index_or}
use Rattle.std.specs.Option.{option_map}
use Rattle.linear.specs.declared.term.Lit.{Lit}
use Rattle.normal_form.specs.Normal.{NormalConstraint}
use Rattle.propagate.specs.declared.forced.Forced.{Forced}
use Rattle.propagate.specs.declared.trace.Trace.{Trace}
use Rattle.propagate.specs.Chain.{IsFixpoint}
use Rattle.propagate.specs.Literals.{SameLiterals}
use Rattle.propagate.specs.Walk.{IsFalsifiedAt, IsReasonedChain, literals_of}

-- a step with the id of its reason
abbrev pub named : List ℕ → Forced → Lit × ℕ
named ids s = (s.literal, slice_index_or ids s.reason 0)

-- the trace is that of a walk from an assignment that has the literals of what is given
pub record IsTraceByPlaces (constraints : List NormalConstraint) (ids : List ℕ) (given : List Lit) (t : Trace) : Type 0 where
  pub start : List Lit
  pub same : SameLiterals start given
  pub steps : List Forced
  pub falsified : Option ℕ
  pub chain : IsReasonedChain constraints start steps
  pub end : MatchOption falsified (IsFixpoint constraints (start ++ literals_of steps)) (IsFalsifiedAt constraints (start ++ literals_of steps))
  pub forced : t.forced ≡ map (named ids) steps
  pub conflict : t.conflict ≡ option_map (λ place. slice_index_or ids place 0) falsified

-- Constraints under their ids, and chains whose reasons are ids.
use Rattle.std.specs.Prelude.{◌≡◌, ◌↔◌, ◌⊎◌, ℕ, ◌<◌, List, [], ◌∷◌, ◌++◌, All, Contains, map, Option, None, Some, MatchOption}
use Rattle.std.specs.FinMap as fin
use Rattle.std.specs.Ordering.{nat_cmp}
use Rattle.linear.specs.declared.term.Lit.{Lit}
use Rattle.normal_form.specs.Normal.{NormalConstraint}
use Rattle.propagate.specs.declared.trace.Decided.{Decided}
use Rattle.propagate.specs.declared.trace.Trace.{Trace}
use Rattle.propagate.specs.Ids.{IdSet, HasId}
use Rattle.propagate.specs.Literals.{IsConsistent, coefficient_of}
use Rattle.propagate.specs.Slack.{IsFalsified, IsForced}
use Rattle.propagate.specs.Chain.{LeadsToConflict, IsClosure}

-- constraints by their ids
abbrev pub Content : Type 0
Content = fin.FinMap nat_cmp NormalConstraint

-- the least id above another that has a constraint, none where there is none above
abbrev pub IsLeastAbove : Content → ℕ → Option ℕ → Type 0
IsLeastAbove content id None = (k : ℕ) → id < k → fin.get content k ≡ None
IsLeastAbove content id (Some next) = (id < next) × ((n : NormalConstraint) × (fin.get content next ≡ Some n))
    × ((k : ℕ) → id < k → k < next → fin.get content k ≡ None)

-- the constraint of the id has the literal
abbrev pub HasLiteral : Content → Lit → ℕ → Type 0
HasLiteral content l id = (n : NormalConstraint) × (fin.get content id ≡ Some n) × (0 < coefficient_of n l)

-- a set has the ids of the constraints that have the literal, beside those that another set has, and no more
abbrev pub AddsOccurrences : Content → Lit → IdSet → IdSet → Type 0
AddsOccurrences content l before ids = (id : ℕ) → HasId ids id ↔ (HasId before id ⊎ HasLiteral content l id)

-- the constraint of the id forces the literal
abbrev pub IsForcedIn : Content → List Lit → Lit → ℕ → Type 0
IsForcedIn content assigned l id = (n : NormalConstraint) × (fin.get content id ≡ Some n) × IsForced assigned l n

-- the constraint of the id has negative slack
abbrev pub IsFalsifiedIn : Content → List Lit → ℕ → Type 0
IsFalsifiedIn content assigned id = (n : NormalConstraint) × (fin.get content id ≡ Some n) × IsFalsified assigned n

-- each literal is forced in the constraint of its id under what is given and those before it
abbrev pub AreForcedIn : Content → List Lit → List (Lit × ℕ) → Type 0
AreForcedIn content given [] = Unit {0}
AreForcedIn content given (p ∷ ps) = IsForcedIn content given p.0 p.1 × AreForcedIn content (given ++ p.0 ∷ []) ps

-- the literals without their ids
abbrev pub traced : List (Lit × ℕ) → List Lit
traced = map (λ p. p.0)

-- the chain comes to an end: no chain leads to a conflict, and what is given or forced is all there
pub record IsEnd (content : Content) (given assigned : List Lit) : Type 0 where
  pub no_conflict : LeadsToConflict (fin.values content) given → ⊥
  pub closure : IsClosure (fin.values content) given assigned

-- a chain from what is given, with its reasons; then a constraint that has negative slack, or else the end
pub record IsTrace (content : Content) (given : List Lit) (t : Trace) : Type 0 where
  pub chain : AreForcedIn content given t.forced
  pub end : MatchOption t.conflict (IsEnd content given (given ++ traced t.forced)) (IsFalsifiedIn content (given ++ traced t.forced))

-- a trace of literals and one more behind them, which may leave out what a chain from those before the last one has
pub record IsTraceOfLast (content : Content) (before : List Lit) (last : Lit) (t : Trace) : Type 0 where
  pub left_out : List (Lit × ℕ)
  pub chain : AreForcedIn content before left_out
  pub trace : IsTrace content ((before ++ traced left_out) ++ last ∷ []) t

-- each literal is decided behind what was decided before it, of which none is its opposite, and its trace tells what it forces then
abbrev pub AreDecided : Content → List Lit → List Decided → Type 0
AreDecided content before [] = Unit {0}
AreDecided content before (d ∷ ds) = IsConsistent (before ++ d.literal ∷ []) × IsTraceOfLast content before d.literal d.trace × AreDecided content (before ++ d.literal ∷ []) ds

-- what was decided: the first of the literals that were asked about, and behind it some of the others
abbrev pub AreTaken : Lit → List Lit → List Decided → Type 0
AreTaken first more [] = ⊥
AreTaken first more (d ∷ ds) = (d.literal ≡ first) × All (λ e. Contains more e.literal) ds

-- Constraints with the places of their literals and the counters of what an assignment leaves open.
use Rattle.std.specs.Prelude.{◌≡◌, ◌⊎◌, ◌++◌, ◌∷◌, ℕ, ◌+◌, ◌*◌, ◌<◌, ◌≤◌, false, List, [], Option, Some, None, All, MatchOption, Contains, length, map, take, slice_index_or}
use Rattle.linear.specs.declared.term.Lit.{Lit}
use Rattle.normal_form.specs.declared.term.NormalTerm.{NormalTerm}
use Rattle.normal_form.specs.Normal.{NormalConstraint, IsNormal, sum_over, variable_bound}
use Rattle.linear.specs.Literal.{opposite}
use Rattle.propagate.specs.Literals.{coefficient_of, lists}
use Rattle.propagate.specs.Slack.{IsForced, not_false}
use Rattle.propagate.specs.Walk.{IsFalsifiedAt, IsQuiet}
use Rattle.occurrences.specs.declared.occurrence.Occurrence.{Occurrence}
use Rattle.ledger.specs.declared.pair.Pair.{Pair}
use Rattle.occurrences.specs.Occurrences.{Listed, entries_of, occurrences_of}

-- what a caller sees: what stands at each place, the literals that are assigned, the first of them, which were propagated, the
-- place of the constraint that forced each, none for a literal that was given, how many variables there are, and of how many places
-- the clauses are listed by literal
pub record State : Type 0 where
  pub slots : List (Option NormalConstraint)
  pub assigned : List Lit
  pub propagated : List Lit
  pub reasons : List (Option ℕ)
  pub variables : ℕ
  pub listed : ℕ

-- the constraint that holds everywhere
abbrev pub nothing : NormalConstraint
nothing = record { terms = []; degree = 0 }

-- a place from which the constraint was taken out says nothing
abbrev pub constraint_in : Option NormalConstraint → NormalConstraint
constraint_in None = nothing
constraint_in (Some n) = n

-- the constraints by their places
abbrev pub shown : List (Option NormalConstraint) → List NormalConstraint
shown = map constraint_in

-- the constraint at a place
abbrev pub constraint_at : List NormalConstraint → ℕ → NormalConstraint
constraint_at constraints place = slice_index_or constraints place nothing

-- what the literals that are not made false add up to
abbrev pub open_sum : List Lit → NormalConstraint → ℕ
open_sum assigned n = sum_over (not_false assigned) n.terms

-- the constraint at a place has this slack
abbrev pub HasSlack : List NormalConstraint → List Lit → ℕ → ℕ → Type 0
HasSlack constraints assigned place slack =
    open_sum assigned (constraint_at constraints place) ≡ (constraint_at constraints place).degree + slack

-- the term at a place of a constraint
abbrev pub term_at : List NormalConstraint → ℕ → ℕ → NormalTerm
term_at constraints place index = slice_index_or (constraint_at constraints place).terms index (record { coef = 0; var = record { 0 = 0 }; negated = false })

-- a table of occurrences of these constraints
pub record IsIndex (constraints : List NormalConstraint) (variables : ℕ) (table : List (List Occurrence)) : Type 0 where
  pub size : 2 * variables ≤ length table
  pub entries : (l : Lit) → entries_of table l ≡ occurrences_of l 0 constraints

-- lists of the first of these constraints
pub record IsIndexBelow (constraints : List NormalConstraint) (variables : ℕ) (lists : Listed) : Type 0 where
  pub low : lists.count ≤ length constraints
  pub index : IsIndex (take lists.count constraints) variables lists.rows

-- each counter is what is open in its constraint; behind the last one nothing is counted
pub record AreCounters (constraints : List NormalConstraint) (assigned : List Lit) (counters : List ℕ) : Type 0 where
  pub few : length counters ≤ length constraints
  pub beyond : (k : ℕ) → length counters ≤ k → constraint_at constraints k ≡ nothing
  pub open_sums : (k : ℕ) → slice_index_or counters k 0 ≡ open_sum assigned (constraint_at constraints k)

-- from its limit on, the open sum of a constraint leaves it unbroken and forcing nothing, where it is the one that is counted at its place
abbrev pub AreLimits : List NormalConstraint → List NormalConstraint → List ℕ → Type 0
AreLimits constraints counted limits = (k : ℕ) (l : Lit) → constraint_at constraints k ≡ constraint_at counted k
    → (constraint_at constraints k).degree + coefficient_of (constraint_at constraints k) l ≤ slice_index_or limits k 0

-- the constraints are normal and of the variables
pub record AreKnown (constraints : List NormalConstraint) (variables : ℕ) : Type 0 where
  pub normal : All IsNormal constraints
  pub within : All (λ n. variable_bound n.terms ≤ variables) constraints

-- what stands at a place is counted, where it has no two literals that watch it, and else watched
pub record AreParted (slots : List (Option NormalConstraint)) (counted watched : List NormalConstraint) (pairs : List (Option Pair)) : Type 0 where
  pub count : length slots ≡ length counted
  pub watched_count : length slots ≡ length watched
  pub pair_count : length slots ≡ length pairs
  pub counts : (k : ℕ) (n : NormalConstraint) → slice_index_or slots k None ≡ Some n → slice_index_or pairs k None ≡ None
      → (constraint_at counted k ≡ n) × (constraint_at watched k ≡ nothing)
  pub watches : (k : ℕ) (n : NormalConstraint) (p : Pair) → slice_index_or slots k None ≡ Some n → slice_index_or pairs k None ≡ Some p
      → (constraint_at counted k ≡ nothing) × (constraint_at watched k ≡ n)

-- what a ledger keeps. A constraint that was taken out stays indexed and counted, and its limit asks for nothing
pub record IsLedger (slots : List (Option NormalConstraint)) (assigned : List Lit) (variables : ℕ) (table : List (List Occurrence)) (clauses : Listed) (counters limits : List ℕ) (pairs : List (Option Pair)) : Type 0 where
  pub counted : List NormalConstraint
  pub watched : List NormalConstraint
  pub index : IsIndex counted variables table
  pub watched_index : IsIndexBelow watched variables clauses
  pub counters_are : AreCounters counted assigned counters
  pub known : AreKnown counted variables
  pub watched_known : AreKnown watched variables
  pub slots_are : AreParted slots counted watched pairs
  pub limits_are : AreLimits (shown slots) counted limits
  pub limited : length limits ≡ length counters

-- the constraint at the place of the reason forces the literal, where there is a reason
abbrev pub IsReason : List NormalConstraint → List Lit → Lit → Option ℕ → Type 0
IsReason constraints assigned l None = Unit {0}
IsReason constraints assigned l (Some place) = (place < length constraints) × IsForced assigned l (constraint_at constraints place)

-- each literal has its reason under those before it
pub record AreReasons (constraints : List NormalConstraint) (assigned : List Lit) (reasons : List (Option ℕ)) : Type 0 where
  pub as_many : length reasons ≡ length assigned
  pub forced : (k : ℕ) (d : Lit) → k < length assigned → IsReason constraints (take k assigned) (slice_index_or assigned k d) (slice_index_or reasons k None)

-- one literal more was propagated: each constraint with its opposite is quiet, or its place waits
pub record IsPropagatedOn (constraints : List NormalConstraint) (before after : List Lit) (waiting : List ℕ) : Type 0 where
  pub literal : Lit
  pub longer : after ≡ before ++ literal ∷ []
  pub unset : lists before literal ≡ false
  pub queued : (k : ℕ) → 0 < coefficient_of (constraint_at constraints k) (opposite literal)
      → IsQuiet after (constraint_at constraints k) ⊎ Contains waiting k

-- one literal more was propagated, or a constraint is falsified, whose place this is, and nothing was
abbrev pub IsPropagation : State → State → List ℕ → Option ℕ → Type 0
IsPropagation old new waiting falsified = MatchOption falsified (IsPropagatedOn (shown old.slots) old.propagated new.propagated waiting)
    (λ k. (new.propagated ≡ old.propagated) × IsFalsifiedAt (shown old.slots) old.assigned k)

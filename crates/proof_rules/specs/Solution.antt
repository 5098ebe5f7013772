-- Solutions that a proof lists: how an assignment of literals is completed, and what improving solutions ask for.
--
-- A solver may list its decisions alone, as in the VeriPB format: what is missing is what propagation over the live
-- constraints forces. An assignment that names every variable of the file needs no completion, and the live constraints are
-- not asked then: a step of redundance may have ruled this solution out, and it is one of the file all the same. So
-- chains serve to complete an assignment and never to judge it; what is judged is whether the whole satisfies the file.
use Rattle.std.specs.Prelude.{◌≡◌, ℕ, ◌<◌, ◌⊎◌, ℤ, pos, ◌-ℤ◌, Bool, true, false, not, List, map, length, slice_index_or}
use Rattle.linear.specs.declared.constraint.Relation.TheVariants.{AtLeast}
use Rattle.linear.specs.declared.constraint.Signed.{Signed}
use Rattle.linear.specs.declared.term.Lit.{Lit}
use Rattle.linear.specs.declared.term.Term.{Term}
use Rattle.normal_form.specs.Normal.{NormalConstraint}
use Rattle.normal_form.specs.NormalOf.{sign_changed}
use Rattle.propagate.specs.Literals.{lists, IsConsistent}
use Rattle.propagate.specs.Chain.{LeadsToConflict, IsReached}

-- the literal that makes a variable true, or false
abbrev pub literal_for : ℕ → Bool → Lit
literal_for v value = record { var = record { 0 = v }; negated = not value }

-- the assignment names all of the first `count` variables
abbrev pub NamesAll : ℕ → List Lit → Type 0
NamesAll count assigned = (v : ℕ) → v < count → (value : Bool) × (lists assigned (literal_for v value) ≡ true)

-- the value that an assignment gives a variable
abbrev pub value_at : List Bool → ℕ → Bool
value_at g v = slice_index_or g v false

-- the assignment itself says what the assignment gives each of its variables
abbrev pub SaysAll : List Lit → List Bool → Type 0
SaysAll assigned g = (v : ℕ) → v < length g → lists assigned (literal_for v (value_at g v)) ≡ true

-- what the assignment gives each of its variables is said by the assignment or forced by chains from it
abbrev pub ReachesAll : List NormalConstraint → List Lit → List Bool → Type 0
ReachesAll live assigned g = (v : ℕ) → v < length g → IsReached live assigned (literal_for v (value_at g v))

-- `g` is the assignment completed to the first `count` variables. An assignment that names all of them is taken as it
-- stands; another one is completed by chains over the live constraints, none of which may lead to a conflict.
pub record Completes (live : List NormalConstraint) (count : ℕ) (assigned : List Lit) (g : List Bool) : Type 0 where
  pub consistent : IsConsistent assigned
  pub long : length g ≡ count
  pub completed : (NamesAll count assigned × SaysAll assigned g)
      ⊎ ((NamesAll count assigned → ⊥) × (LeadsToConflict live assigned → ⊥) × ReachesAll live assigned g)

-- objective <= bound
abbrev pub at_most : List Term → ℤ → Signed
at_most objective bound = record { terms = map sign_changed objective; relation = AtLeast; right = pos 0 -ℤ bound }

-- objective >= bound
abbrev pub at_least : List Term → ℤ → Signed
at_least objective bound = record { terms = objective; relation = AtLeast; right = bound }

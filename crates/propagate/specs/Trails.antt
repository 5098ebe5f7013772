-- Assignments that have no variable twice, with the values that they give.
use Rattle.std.specs.Prelude.{◌≡◌, ℕ, ◌<◌, ◌≤◌, ◌++◌, Bool, true, false, List, length, take, slice_index_or}
use Rattle.std.specs.List.{count_by}
use Rattle.linear.specs.declared.term.Lit.{Lit}
use Rattle.linear.specs.Literal.{opposite}
use Rattle.propagate.specs.Literals.{among, lists}
use Rattle.propagate.specs.declared.value.Value.{Value}
use Rattle.propagate.specs.Values.{AreValuesUnder, is_given}

-- a literal that is not listed, nor its opposite
abbrev pub IsFree : List Lit → Lit → Type 0
IsFree assigned l = (lists assigned l ≡ false) × (lists assigned (opposite l) ≡ false)

-- each literal is free in what stands before it, and the values are those that they give
pub record IsTrail (assigned : List Lit) (values : List Value) : Type 0 where
  pub fresh : (k : ℕ) (d : Lit) → k < length assigned → IsFree (take k assigned) (slice_index_or assigned k d)
  pub given : AreValuesUnder assigned values
  pub inside : (v : ℕ) (negated : Bool) → among assigned v negated ≡ true → v < length values
  pub few : length assigned ≤ count_by is_given values

-- each literal's variable has its place in the assignment
abbrev pub ArePositions : List Lit → List ℕ → Type 0
ArePositions assigned positions = (k : ℕ) (d : Lit) → k < length assigned → slice_index_or positions ((slice_index_or assigned k d).var.0) 0 ≡ k

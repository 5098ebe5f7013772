-- A table of the literals that stand somewhere: the private functions that fill it speak of this.
use Rattle.std.specs.Prelude.{◌≡◌, ◌↔◌, ℕ, ◌<◌, Bool, true, false, not, List, AllPairs, Contains, length, slice_index_or, if◌then◌else◌}
use Rattle.linear.specs.declared.term.Lit.{Lit}
use Rattle.normal_form.specs.Normal.{NormalConstraint, coefficient}
use Rattle.presolve.specs.declared.uses.Uses.{Uses}

-- whether the literal of a sign stands
abbrev pub side : Uses → Bool → Bool
side uses negated = if negated then uses.negated else uses.plain

abbrev pub unused : Uses
unused = record { plain = false; negated = false }

-- whether a literal stands, by variable and sign
abbrev pub stands : List Uses → ℕ → Bool → Bool
stands table v negated = side (slice_index_or table v unused) negated

-- of the table's variables, those literals are new that have a property
abbrev pub Notes : (ℕ → Bool → Type 0) → List Uses → List Uses → Type 0
Notes absent old new =
    (v : ℕ) (s : Bool) → v < length old → (stands new v s ≡ false) ↔ ((stands old v s ≡ false) × absent v s)

-- a normal constraint's literals are new
abbrev pub NotesForm : NormalConstraint → List Uses → List Uses → Type 0
NotesForm n = Notes (λ v s. coefficient n v s ≡ 0)

-- of what stands of a variable: the opposite does not, nor is the literal without `~` the one to be taken
abbrev pub IsTakenOf : Uses → Lit → Type 0
IsTakenOf uses l = (side uses (not l.negated) ≡ false) × (l.negated ≡ true → side uses true ≡ false → ⊥)

-- the same by a table
abbrev pub IsTaken : List Uses → Lit → Type 0
IsTaken table l = IsTakenOf (slice_index_or table (l.var.0) unused) l

-- just the literals that are taken, of the variables below a bound, by rising variable
abbrev pub AreTakenBelow : List Uses → ℕ → List Lit → Type 0
AreTakenBelow table bound ls =
    AllPairs (λ k l. k.var.0 < l.var.0) ls × ((l : Lit) → Contains ls l ↔ ((l.var.0 < bound) × IsTaken table l))

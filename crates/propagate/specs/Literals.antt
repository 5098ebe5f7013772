-- Assignments of literals that are taken as true.
use Rattle.std.specs.Prelude.{ℕ, ◌+◌, ◌≡◌, max, Bool, true, false, ◌||◌, List, [], ◌∷◌}
use Rattle.linear.specs.declared.term.Lit.{Lit}
use Rattle.linear.specs.Literal.{opposite}
use Rattle.linear.specs.Valuation.{Valuation, literal_true}
use Rattle.normal_form.specs.Normal.{Literals, NormalConstraint, only, coefficient}

-- N(l): the coefficient of a literal
abbrev pub coefficient_of : NormalConstraint → Lit → ℕ
coefficient_of n l = coefficient n (l.var.0) l.negated

-- the least number above all variables of an assignment
abbrev pub literal_bound : List Lit → ℕ
literal_bound [] = 0
literal_bound (l ∷ ls) = max (l.var.0 + 1) (literal_bound ls)

-- the literals of an assignment, as a set
abbrev pub among : List Lit → Literals
among [] v s = false
among (l ∷ ls) v s = only (l.var.0) l.negated v s || among ls v s

-- whether an assignment has a literal
abbrev pub lists : List Lit → Lit → Bool
lists assigned l = among assigned (l.var.0) l.negated

-- an assignment that has a literal and its opposite
abbrev pub Contradicts : List Lit → Type 0
Contradicts assigned = (l : Lit) × (lists assigned l ≡ true) × (lists assigned (opposite l) ≡ true)

-- an assignment that does not
abbrev pub IsConsistent : List Lit → Type 0
IsConsistent assigned = Contradicts assigned → ⊥

-- no literal stands in the assignment twice
abbrev pub IsOnce : List Lit → Type 0
IsOnce [] = Unit {0}
IsOnce (l ∷ ls) = (lists ls l ≡ false) × IsOnce ls

-- two assignments have the same literals
abbrev pub SameLiterals : List Lit → List Lit → Type 0
SameLiterals xs ys = (v : ℕ) (s : Bool) → among xs v s ≡ among ys v s

-- an assignment makes a literal true
abbrev pub MakesTrue : Valuation → Lit → Type 0
MakesTrue a l = literal_true a (l.var.0) l.negated ≡ true

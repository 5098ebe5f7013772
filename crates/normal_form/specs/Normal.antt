-- Normal constraints of cutting planes. What is kept is a list of terms in order of their variables; what it
-- means is a function from literals to coefficients, and a degree. Numbers here have no bound but where Fits says so.
use Rattle.std.specs.Prelude.{ℕ, zero, suc, ◌+◌, ◌^◌, ◌<◌, ◌≤◌, max, Bool, true, not, ◌&&◌, List, [], ◌∷◌, ◌==◌, if◌then◌else◌}
use Rattle.linear.specs.Valuation.{Valuation, literal_true}
use Rattle.normal_form.specs.declared.term.NormalTerm.{NormalTerm}

-- a list of terms and a degree
pub record NormalConstraint : Type 0 where
  pub terms : List NormalTerm
  pub degree : ℕ

-- a set of literals, by variable and sign (true for a negated one)
abbrev pub Literals : Type 0
Literals = ℕ → Bool → Bool

-- what the coefficients of the literals of a set add up to
abbrev pub sum_over : Literals → List NormalTerm → ℕ
sum_over set [] = 0
sum_over set (t ∷ ts) = (if set (t.var.0) t.negated then t.coef else 0) + sum_over set ts

-- two signs are the same
abbrev pub same_sign : Bool → Bool → Bool
same_sign s t = if s then t else not t

-- the set of one literal
abbrev pub only : ℕ → Bool → Literals
only variable negated v s = (v == variable) && same_sign negated s

-- N(l): the coefficient of a literal, 0 where it does not occur
abbrev pub coefficient : NormalConstraint → ℕ → Bool → ℕ
coefficient n variable negated = sum_over (only variable negated) n.terms

-- the sum of all coefficients
abbrev pub total : List NormalTerm → ℕ
total = sum_over (λ _ _. true)

-- what the true literals add up to
abbrev pub weight : Valuation → NormalConstraint → ℕ
weight a n = sum_over (literal_true a) n.terms

-- the true literals add up to at least the degree
abbrev pub Holds : Valuation → NormalConstraint → Type 0
Holds a n = n.degree ≤ weight a n

-- the variables rise strictly, none below `low`, and each coefficient is above 0
abbrev pub Rises : ℕ → List NormalTerm → Type 0
Rises low [] = Unit {0}
Rises low (t ∷ ts) = (low ≤ t.var.0) × (0 < t.coef) × Rises (t.var.0 + 1) ts

-- f at each number below n, added up
abbrev pub sum_below : ℕ → (ℕ → ℕ) → ℕ
sum_below zero f = 0
sum_below (suc n) f = sum_below n f + f n

-- the least number above all variables that occur
abbrev pub variable_bound : List NormalTerm → ℕ
variable_bound [] = 0
variable_bound (t ∷ ts) = max (t.var.0 + 1) (variable_bound ts)

-- the limit of coefficient sums and of degrees
abbrev pub largest_sum : ℕ
largest_sum = 2 ^ 120

-- a constraint within the limits
pub record Fits (n : NormalConstraint) : Type 0 where
  pub sum : total n.terms ≤ largest_sum
  pub degree : n.degree ≤ largest_sum

-- a normal constraint: each variable at most once, coefficients above 0, within the limits
pub record IsNormal (n : NormalConstraint) : Type 0 where
  pub rises : Rises 0 n.terms
  pub fits : Fits n

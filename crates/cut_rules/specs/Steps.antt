-- What the private functions speak of: merging the terms of two constraints variable by variable, and terms with
-- other coefficients.
use Rattle.std.specs.Prelude.{◌≡◌, ℕ, zero, suc, Bool, ◌+◌, ◌*◌, ◌≤◌, ◌+ℤ◌, List, [], ◌∷◌, ◌++◌, ◌==◌, if◌then◌else◌}
use Rattle.std.specs.Int.{div_ceil}
use Rattle.linear.specs.Largest.{most_names}
use Rattle.normal_form.specs.declared.term.NormalTerm.{NormalTerm}
use Rattle.normal_form.specs.Balance.{rises_of}
use Rattle.normal_form.specs.Normal.{Rises, variable_bound}

-- the variable of the first term, or the number of names that there may be, which is above all variables
abbrev pub first_variable : List NormalTerm → ℕ
first_variable [] = most_names
first_variable (t ∷ ts) = t.var.0

-- the variable of the first term; the end is known by its number
pub record IsFirst (ts : List NormalTerm) (variable : ℕ) : Type 0 where
  pub first : variable ≡ first_variable ts
  pub last : most_names ≤ variable → ts ≡ []

-- the terms of the least variable v of two sides are merged: m and s are left of l and r, and `out` has become `new`, which gives each set
-- of variables what went from the sides
pub record IsMergedAt (v : ℕ) (l m r s out new : List NormalTerm) : Type 0 where
  pub balance : (set : ℕ → Bool) → (rises_of set new +ℤ rises_of set m) +ℤ rises_of set s ≡ (rises_of set out +ℤ rises_of set l) +ℤ rises_of set r
  pub left : Rises (v + 1) m
  pub right : Rises (v + 1) s
  pub bound : variable_bound new ≤ v + 1
  pub rises : Rises 0 out → Rises 0 new

-- the terms of r give each set of variables what those of d and e give together
abbrev pub SumBalances : List NormalTerm → List NormalTerm → List NormalTerm → Type 0
SumBalances d e r = (set : ℕ → Bool) → rises_of set r ≡ rises_of set d +ℤ rises_of set e

-- a term with another coefficient, or none where that is 0
abbrev pub kept : NormalTerm → ℕ → List NormalTerm
kept t zero = []
kept t (suc c) = (record t { coef = suc c }) ∷ []

-- the terms with coefficients that a function gives, of the variable and the coefficient before
abbrev pub changed : (ℕ → ℕ → ℕ) → List NormalTerm → List NormalTerm
changed f [] = []
changed f (t ∷ ts) = kept t (f (t.var.0) t.coef) ++ changed f ts

-- the terms of which so many have coefficients that a function gives
abbrev pub partly_changed : (ℕ → ℕ → ℕ) → ℕ → List NormalTerm → List NormalTerm
partly_changed f zero ts = ts
partly_changed f (suc i) [] = []
partly_changed f (suc i) (t ∷ ts) = (record t { coef = f (t.var.0) t.coef }) ∷ partly_changed f i ts

-- a coefficient where the variable x goes
abbrev pub less : ℕ → ℕ → ℕ → ℕ
less x v c = if v == x then 0 else c

-- a coefficient times k
abbrev pub times : ℕ → ℕ → ℕ → ℕ
times k v c = k * c

-- a coefficient divided by k, rounded up
abbrev pub parts : ℕ → ℕ → ℕ → ℕ
parts k v c = div_ceil c k

-- Variables that may change places: that leads from each normal constraint of the file to one of them, and costs nothing.
use Rattle.std.specs.Prelude.{◌≡◌, ◌≢◌, ◌↔◌, ◌⊎◌, ℕ, zero, suc, ◌+◌, ◌-◌, ◌<◌, ◌==◌, Bool, List, Option, All, AllPairs, Any, Contains, IfSome, length, if◌then◌else◌}
use Rattle.linear.specs.Opb.{Opb}
use Rattle.linear.specs.declared.constraint.Signed.{Signed}
use Rattle.linear.specs.declared.term.Lit.{Lit}
use Rattle.linear.specs.declared.term.Term.{Term}
use Rattle.normal_form.specs.Normal.{NormalConstraint, coefficient}
use Rattle.normal_form.specs.NormalOf.{net}
use Rattle.presolve.specs.Standing.{IsFormOf}
use Rattle.presolve.specs.declared.swapping.Swap.{Swap}

-- two variables change places
abbrev pub exchanged : ℕ → ℕ → ℕ → ℕ
exchanged x y v = if v == x then y else if v == y then x else v

-- `m` is `n` after two variables have changed places
pub record IsExchange (x y : ℕ) (n m : NormalConstraint) : Type 0 where
  pub coefficients : (v : ℕ) (s : Bool) → coefficient m v s ≡ coefficient n (exchanged x y v) s
  pub degree : m.degree ≡ n.degree

-- a normal constraint of a file
abbrev pub IsFormIn : List Signed → NormalConstraint → Type 0
IsFormIn constraints n = Any (λ c. IsFormOf c n) constraints

-- where two variables change places, each normal constraint of a file becomes one of them
abbrev pub IsSymmetric : List Signed → ℕ → ℕ → Type 0
IsSymmetric constraints x y =
    (n : NormalConstraint) → IsFormIn constraints n → (m : NormalConstraint) × IsFormIn constraints m × IsExchange x y n m

-- both have one net coefficient in the objective, if there is one
abbrev pub CostTheSame : Option (List Term) → ℕ → ℕ → Type 0
CostTheSame objective x y = IfSome objective (λ terms. net terms x ≡ net terms y)

-- two variables of a problem may change places
pub record IsSwappable (p : Opb) (x y : ℕ) : Type 0 where
  pub order : x < y
  pub variable : y < length p.names
  pub constraints : IsSymmetric p.constraints x y
  pub objective : CostTheSame p.objective x y

-- of so many variables, how many pairs begin with one below x
abbrev pub pairs_before : ℕ → ℕ → ℕ
pairs_before count zero = 0
pairs_before count (suc x) = pairs_before count x + (count - suc x)

-- how many pairs of variables stand before a pair, by the first variable and then by the second
abbrev pub rank : ℕ → ℕ → ℕ → ℕ
rank count x y = pairs_before count x + (y - suc x)

-- so many pairs are tried
abbrev pub most_tried : ℕ
most_tried = 65536

-- a pair does not have the variable
abbrev pub IsWithout : ℕ → Swap → Type 0
IsWithout v s = (s.first.0 ≢ v) × (s.second.0 ≢ v)

-- a variable is neither fixed nor in one of these pairs
pub record IsFree (fixed : List Lit) (used : List Swap) (v : ℕ) : Type 0 where
  pub unfixed : All (λ l. l.var.0 ≢ v) fixed
  pub unused : All (IsWithout v) used

abbrev pub IsEarlier : Swap → Swap → Type 0
IsEarlier s t = (s.first.0 < t.first.0) ⊎ ((s.first.0 ≡ t.first.0) × (s.second.0 < t.second.0))

-- a pair is used: it is one of those that are tried, and neither of its variables is fixed or in an earlier pair that is used
pub record IsUsed (p : Opb) (fixed : List Lit) (used : List Swap) (s : Swap) : Type 0 where
  pub swappable : IsSwappable p (s.first.0) (s.second.0)
  pub tried : rank (length p.names) (s.first.0) (s.second.0) < most_tried
  pub unfixed : All (λ l. (l.var.0 ≢ s.first.0) × (l.var.0 ≢ s.second.0)) fixed
  pub apart : (t : Swap) → Contains used t → IsEarlier t s → IsWithout (s.first.0) t × IsWithout (s.second.0) t

-- just these pairs are used, by rising first variable
pub record AreUsed (p : Opb) (fixed : List Lit) (used : List Swap) : Type 0 where
  pub order : AllPairs (λ s t. s.first.0 < t.first.0) used
  pub exact : (s : Swap) → Contains used s ↔ IsUsed p fixed used s

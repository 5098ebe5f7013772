-- A constraint as an array: at each place the net coefficient of the variable of that number.
use Rattle.std.specs.Prelude.{ℕ, suc, min, negsuc, ◌+◌, ◌*◌, ◌<◌, ◌≤◌, ◌==◌, ◌≡◌, All, Contains, length, slice_index_or, ℤ, pos, neg_ℤ, ◌+ℤ◌, unsigned_abs, Bool, true, not, List, [], ◌∷◌, ◌++◌, if◌then◌else◌}
use Rattle.std.specs.Int.{div_ceil}
use Rattle.std.specs.List.Sorted.{IsStrictlyIncreasing}
use Rattle.normal_form.specs.Normal.{NormalConstraint, largest_sum}
use Rattle.normal_form.specs.Balance.{net_term}
use Rattle.normal_form.specs.declared.term.NormalTerm.{NormalTerm}
use Rattle.accumulate.specs.declared.cells.Change.{Change}
use Rattle.accumulate.specs.declared.cells.Change.TheVariants as changes
use Rattle.accumulate.specs.declared.scaling.Scaling.{Scaling}
use Rattle.accumulate.specs.declared.scaling.Scaling.TheVariants as scalings

-- the terms of the variables from v on
abbrev pub terms_from : ℕ → List ℤ → List NormalTerm
terms_from v [] = []
terms_from v (net ∷ nets) = net_term v net ++ terms_from (v + 1) nets

-- what the variables from v on give a set of variables
abbrev pub nets_of : (ℕ → Bool) → ℕ → List ℤ → ℤ
nets_of set v [] = pos 0
nets_of set v (net ∷ nets) = (if set v then net else pos 0) +ℤ nets_of set (v + 1) nets

-- the sizes of the net coefficients, added up
abbrev pub sizes : List ℤ → ℕ
sizes [] = 0
sizes (net ∷ nets) = unsigned_abs net + sizes nets

-- what a number adds, or what takes it back
abbrev pub turned : Change → ℤ → ℤ
turned changes.Add z = z
turned changes.TakeBack z = neg_ℤ z

-- the marks name every variable whose net coefficient is greater than a number, and none past the array
pub record IsMarkedAbove (level : ℕ) (marks : List ℕ) (nets : List ℤ) : Type 0 where
  pub covers : (v : ℕ) → level < unsigned_abs (slice_index_or nets v (pos 0)) → Contains marks v
  pub room : All (λ v. v < length nets) marks

-- the marks name every variable with a net coefficient, and none past the array
abbrev pub IsMarked : List ℕ → List ℤ → Type 0
IsMarked marks nets = IsMarkedAbove 0 marks nets

-- whether a variable has a net coefficient
abbrev pub is_live : List ℤ → ℕ → Bool
is_live nets v = not (unsigned_abs (slice_index_or nets v (pos 0)) == 0)

-- marks in order: they name every variable with a net coefficient once, and no other
pub record AreTidy (marks : List ℕ) (nets : List ℤ) : Type 0 where
  pub marked : IsMarked marks nets
  pub live : All (λ v. is_live nets v ≡ true) marks
  pub rises : IsStrictlyIncreasing marks

-- the marks name every variable of the terms
abbrev pub NamesAll : List ℕ → List NormalTerm → Type 0
NamesAll marks ts = All (λ t. Contains marks (t.var.0)) ts

-- the constraint of an array and a degree
abbrev pub constraint_of : List ℤ → ℕ → NormalConstraint
constraint_of nets degree = record { terms = terms_from 0 nets; degree = degree }

-- the constraint without terms, of degree 0
abbrev pub nothing : NormalConstraint
nothing = record { terms = []; degree = 0 }

-- what is kept beside the array is right, and all is within the limits
pub record IsKept (nets : List ℤ) (marks : List ℕ) (sum degree : ℕ) : Type 0 where
  pub marked : IsMarked marks nets
  pub summed : sum ≡ sizes nets
  pub small : sum ≤ largest_sum
  pub low : degree ≤ largest_sum

-- a number stands at this place of the list or after it
abbrev pub IsAhead : ℕ → List ℕ → ℕ → Type 0
IsAhead i xs v = (k : ℕ) × (i ≤ k) × (k < length xs) × (slice_index_or xs k v ≡ v)

-- a net coefficient of another size, on the same side of 0
abbrev pub resized : (ℕ → ℕ) → ℤ → ℤ
resized f (pos n) = pos (f n)
resized f (negsuc n) = neg_ℤ (pos (f (suc n)))

-- each cell of an array gets another size
abbrev pub AreResized : (ℕ → ℕ) → List ℤ → List ℤ → Type 0
AreResized f old new = (v : ℕ) → slice_index_or new v (pos 0) ≡ resized f (slice_index_or old v (pos 0))

-- a net coefficient of at most this size, on the same side of 0
abbrev pub capped : ℕ → ℤ → ℤ
capped most = resized (λ n. min n most)

-- each cell of an array is capped at this size
abbrev pub AreCapped : ℕ → List ℤ → List ℤ → Type 0
AreCapped most = AreResized (λ n. min n most)

-- what becomes of a number
abbrev pub scaled : Scaling → ℕ → ℕ
scaled (scalings.Times k) n = k * n
scaled (scalings.DividedBy k) n = div_ceil n k

-- that can be done, and where the number is within the limit, so is what becomes of it
abbrev pub ScalesWithin : Scaling → ℕ → Type 0
ScalesWithin (scalings.Times k) n = k * n ≤ largest_sum
ScalesWithin (scalings.DividedBy k) n = 0 < k

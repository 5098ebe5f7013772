-- The order in which the terms of a constraint are passed: by decreasing coefficient. And the first ones, which can force nothing more.
use Rattle.std.specs.Prelude.{◌≡◌, ℕ, ◌<◌, ◌≤◌, false, List, [], Option, None, Some, length, slice_index_or}
use Rattle.linear.specs.declared.term.Lit.{Lit}
use Rattle.normal_form.specs.declared.term.NormalTerm.{NormalTerm}
use Rattle.normal_form.specs.Normal.{NormalConstraint}
use Rattle.propagate.specs.Passes.{literal_of}
use Rattle.propagate.specs.Trails.{IsFree}

-- the place at an index of an order: the index itself, where the order ends before it
abbrev pub place_in : List ℕ → ℕ → ℕ
place_in order index = slice_index_or order index index

-- the term at a place, with a coefficient of 0 behind the last
abbrev pub placed : List NormalTerm → ℕ → NormalTerm
placed terms place = slice_index_or terms place (record { coef = 0; var = record { 0 = 0 }; negated = false })

-- the coefficient of the term at a place, 0 behind the last
abbrev pub coefficient_at : List NormalTerm → ℕ → ℕ
coefficient_at terms place = (placed terms place).coef

-- an order of terms by decreasing coefficient: there are as many indices as places, and each place has one, so each place stands in it
-- once; and no coefficient is above one before it
pub record IsDecreasing (terms : List NormalTerm) (order : List ℕ) : Type 0 where
  pub below : (index : ℕ) → index < length terms → place_in order index < length terms
  pub each : (place : ℕ) → place < length terms → (index : ℕ) × (index < length terms) × (place_in order index ≡ place)
  pub decreases : (i j : ℕ) → i ≤ j → j < length terms → coefficient_at terms (place_in order j) ≤ coefficient_at terms (place_in order i)

-- so many terms are passed, the first ones of an order: none of their literals is free
abbrev pub ArePassed : List NormalTerm → List ℕ → List Lit → ℕ → Type 0
ArePassed terms order assigned count = (index : ℕ) → index < count → IsFree assigned (literal_of (placed terms (place_in order index))) → ⊥

-- orders by place, and how many terms are passed at each
pub record Ordering : Type 0 where
  pub orders : List (List ℕ)
  pub passed : List ℕ

-- what is kept at a place: its order, and how many terms are passed
pub record Order : Type 0 where
  pub places : List ℕ
  pub passed : ℕ

abbrev pub order_at : Ordering → ℕ → Order
order_at o k = record { places = slice_index_or o.orders k []; passed = slice_index_or o.passed k 0 }

-- an order of terms, of which so many are passed
abbrev pub IsOrder : List Lit → List NormalTerm → Order → Type 0
IsOrder assigned terms o = IsDecreasing terms o.places × ArePassed terms o.places assigned o.passed

-- each constraint has an order of its terms, at its place
abbrev pub AreOrders : List (Option NormalConstraint) → List Lit → Ordering → Type 0
AreOrders slots assigned o = (k : ℕ) (n : NormalConstraint) → slice_index_or slots k None ≡ Some n → IsOrder assigned n.terms (order_at o k)

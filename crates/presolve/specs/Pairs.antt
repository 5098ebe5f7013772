-- How pairs are gone through: private functions speak of this.
use Rattle.std.specs.Prelude.{◌≡◌, ◌↔◌, ℕ, suc, ◌-◌, ◌<◌, Bool, false, ℤ, pos, List, AllPairs, Contains, length, slice_index_or}
use Rattle.linear.specs.Opb.{Opb}
use Rattle.linear.specs.declared.term.Lit.{Lit}
use Rattle.presolve.specs.Forms.{AreKeysOf, IsIndexed}
use Rattle.presolve.specs.Swapping.{CostTheSame, IsFree, IsSwappable, IsUsed}
use Rattle.presolve.specs.declared.file_forms.FileForms.{FileForms}
use Rattle.presolve.specs.declared.swapping.Swap.{Swap}

-- numbers that are the same for two variables of a problem just where they cost the same
abbrev pub AreCostsOf : Opb → List ℤ → Type 0
AreCostsOf p costs =
    (x y : ℕ) → x < length p.names → y < length p.names → (slice_index_or costs x (pos 0) ≡ slice_index_or costs y (pos 0)) ↔ CostTheSame p.objective x y

-- what is kept is that of a problem
pub record IsReady (p : Opb) (forms : FileForms) (costs : List ℤ) : Type 0 where
  pub keys : AreKeysOf p.constraints forms.keys.keys
  pub places : length forms.places.items ≡ length p.names
  pub indexed : IsIndexed forms
  pub count : length costs ≡ length p.names
  pub cost : AreCostsOf p costs

-- a variable that is not taken and may change places with another one before it, among so many behind that
pub record IsPartner (p : Opb) (taken : List Bool) (left x y : ℕ) : Type 0 where
  pub swappable : IsSwappable p x y
  pub free : slice_index_or taken y false ≡ false
  pub near : y - suc x < left

-- those variables are taken that are fixed or in one of the pairs
abbrev pub AreTaken : List Lit → List Swap → List Bool → Type 0
AreTaken fixed used taken = (v : ℕ) → v < length taken → (slice_index_or taken v false ≡ false) ↔ IsFree fixed used v

-- just those pairs are used, of all that begin below a bound
pub record AreUsedBelow (p : Opb) (fixed : List Lit) (bound : ℕ) (used : List Swap) : Type 0 where
  pub order : AllPairs (λ s t. s.first.0 < t.first.0) used
  pub exact : (s : Swap) → Contains used s ↔ ((s.first.0 < bound) × IsUsed p fixed used s)

-- so many variables have been gone over
pub record IsChosen (p : Opb) (fixed : List Lit) (bound : ℕ) (used : List Swap) (taken : List Bool) : Type 0 where
  pub pairs : AreUsedBelow p fixed bound used
  pub variables : AreTaken fixed used taken

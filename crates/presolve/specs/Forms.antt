-- The normal constraints of a file as keys of a set, and where their variables stand: private functions speak of this.
use Rattle.std.specs.Prelude.{◌≡◌, ◌↔◌, ◌⊎◌, ℕ, ◌<◌, List, [], map, All, Any, Contains, length, slice_index_or}
use Rattle.std.specs.Global.{Vec}
use Rattle.linear.specs.declared.constraint.Signed.{Signed}
use Rattle.normal_form.specs.declared.term.NormalTerm.{NormalTerm}
use Rattle.normal_form.specs.Normal.{NormalConstraint, Rises}
use Rattle.presolve.specs.Swapping.{IsExchange, IsFormIn, exchanged}
use Rattle.presolve.specs.Weights.{greatest}
use Rattle.presolve.specs.declared.form.Form.{Form}
use Rattle.presolve.specs.declared.file_forms.FileForms.{FileForms}

abbrev pub constraint_of : Form → NormalConstraint
constraint_of form = record { terms = form.terms.items; degree = form.degree }

-- a term with one variable in the place of the other
abbrev pub term_exchanged : ℕ → ℕ → NormalTerm → NormalTerm
term_exchanged x y t = record t { var = record { 0 = exchanged x y (t.var.0) } }

abbrev pub terms_exchanged : ℕ → ℕ → List NormalTerm → List NormalTerm
terms_exchanged x y = map (term_exchanged x y)

abbrev pub constraints_of : List Form → List NormalConstraint
constraints_of = map constraint_of

-- of the constraints of keys, those are new that have a property
abbrev pub Adds : (NormalConstraint → Type 0) → List Form → List Form → Type 0
Adds has old new = (n : NormalConstraint) → Contains (constraints_of new) n ↔ (Contains (constraints_of old) n ⊎ has n)

-- the keys are just the normal constraints of the file
abbrev pub AreKeysOf : List Signed → List Form → Type 0
AreKeysOf constraints keys = (n : NormalConstraint) → IsFormIn constraints n ↔ Contains (constraints_of keys) n

-- the places at a variable, none where the table does not have it
abbrev pub places_at : List (Vec ℕ) → ℕ → List ℕ
places_at table v = slice_index_or (map (λ places. places.items) table) v []

-- a variable has a term among these
abbrev pub HasTerm : ℕ → List NormalTerm → Type 0
HasTerm v terms = Any (λ t. t.var.0 ≡ v) terms

-- of the table's variables, those that have a property get the place
abbrev pub NotesPlaces : (ℕ → Type 0) → ℕ → List (Vec ℕ) → List (Vec ℕ) → Type 0
NotesPlaces has place old new =
    (v : ℕ) → v < length old → (i : ℕ) → Contains (places_at new v) i ↔ (Contains (places_at old v) i ⊎ ((i ≡ place) × has v))

abbrev pub NotesPlace : ℕ → ℕ → List (Vec ℕ) → List (Vec ℕ) → Type 0
NotesPlace variable = NotesPlaces (λ v. v ≡ variable)

abbrev pub NotesTerms : List NormalTerm → ℕ → List (Vec ℕ) → List (Vec ℕ) → Type 0
NotesTerms terms = NotesPlaces (λ v. HasTerm v terms)

-- there is a key at the place, and it has a term of the variable
abbrev pub HasKeyAt : List Form → ℕ → ℕ → Type 0
HasKeyAt keys i v = (i < length keys) × ((d : Form) → HasTerm v (slice_index_or keys i d).terms.items)

-- at each of so many variables the places of just the keys that have a term of it
pub record ArePlacesOf (keys : List Form) (count : ℕ) (table : List (Vec ℕ)) : Type 0 where
  pub count_is : length table ≡ count
  pub places : (v : ℕ) → v < count → (i : ℕ) → Contains (places_at table v) i ↔ HasKeyAt keys i v

-- one of these is another one after two variables have changed places
abbrev pub HasExchange : ℕ → ℕ → List NormalConstraint → NormalConstraint → Type 0
HasExchange x y constraints n = (m : NormalConstraint) × Contains constraints m × IsExchange x y n m

-- so is the constraint of the key at a place
abbrev pub HasExchangeAt : ℕ → ℕ → List Form → ℕ → Type 0
HasExchangeAt x y keys i = (d : Form) → HasExchange x y (constraints_of keys) (constraint_of (slice_index_or keys i d))

-- each key is a list of terms that rises, it is noted where it stands, and each variable is weighed
pub record IsIndexed (forms : FileForms) : Type 0 where
  pub rises : All (λ k. Rises 0 k.terms.items) forms.keys.keys
  pub places : ArePlacesOf forms.keys.keys (length forms.places.items) forms.places.items
  pub weighed : length forms.weights.items ≡ length forms.places.items
  pub weights : (v : ℕ) → v < length forms.places.items → slice_index_or forms.weights.items v 0 ≡ greatest forms.keys.keys v

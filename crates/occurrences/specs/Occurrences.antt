-- Where literals stand: lists of places of constraints with coefficients.
use Rattle.std.specs.Prelude.{ℕ, [], ◌∷◌, ◌++◌, ◌+◌, ◌≡◌, List, ◌==◌, slice_index_or, if◌then◌else◌}
use Rattle.std.specs.List.{sum_by}
use Rattle.linear.specs.declared.term.Lit.{Lit}
use Rattle.linear.specs.Literal.{code}
use Rattle.normal_form.specs.declared.term.NormalTerm.{NormalTerm}
use Rattle.normal_form.specs.Normal.{NormalConstraint, only, sum_over}
use Rattle.occurrences.specs.declared.occurrence.Occurrence.{Occurrence}

-- what an entry adds at a place
abbrev pub share : ℕ → Occurrence → ℕ
share place o = if o.place == place then o.coef else 0

-- what entries add up to at a place
abbrev pub share_of : ℕ → List Occurrence → ℕ
share_of place os = sum_by (share place) os

-- the entries of a literal
abbrev pub entries_of : List (List Occurrence) → Lit → List Occurrence
entries_of table l = slice_index_or table (code l) []

-- the entry of a place with a coefficient: none where that is 0
abbrev pub entry_with : ℕ → ℕ → List Occurrence
entry_with place coef = if coef == 0 then [] else record { place = place; coef = coef } ∷ []

-- the entry of a literal for terms at a place: none where it does not occur
abbrev pub entry_of : Lit → ℕ → List NormalTerm → List Occurrence
entry_of l place ts = entry_with place (sum_over (only (l.var.0) l.negated) ts)

-- the entries of a literal for constraints from a place on: where it occurs, in order
abbrev pub occurrences_of : Lit → ℕ → List NormalConstraint → List Occurrence
occurrences_of l place [] = []
occurrences_of l place (n ∷ ns) = entry_of l place n.terms ++ occurrences_of l (place + 1) ns

-- a table has these entries of terms at a place more, behind what each literal had
abbrev pub HasMore : (Lit → List Occurrence) → List (List Occurrence) → ℕ → List NormalTerm → Type 0
HasMore before table place ts = (l : Lit) → entries_of table l ≡ before l ++ entry_of l place ts

-- lists of entries by literal, and of how many places they are
pub record Listed : Type 0 where
  pub count : ℕ
  pub rows : List (List Occurrence)

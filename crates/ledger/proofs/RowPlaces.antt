-- Rows of places: a place more at the end of a row, and one taken off.
use Rattle.std.proofs.Common.{◌≡◌, ℕ, ◌+◌, ◌-◌, ◌<◌, ◌≤◌, ◌⊎◌, inl, inr, Contains, List, [], ◌∷◌, ◌++◌, length, length-append, get_or, set, Result, Ok, Err, OnErr, OnOk, refl, ap, sym, subst, ◌∙◌, arith}
use Rattle.std.proofs.lemmas.Bool.{cases_eq, cases_lt}
use Rattle.std.proofs.lemmas.List.{get_or_push, get_or_append_left, get_or-set_same, get_or-set_other, length-set, get_or-take, length-take-le, get_or_default}
use Rattle.std.specs.List.{swap_remove}
use Rattle.linear.specs.declared.term.Lit.{Lit}
use Rattle.ledger.specs.declared.pair.Pair.{Pair}
use Rattle.ledger.specs.Falls.{IsAhead}
use Rattle.linear.specs.Literal.{code}
use Rattle.ledger.specs.Watched.{StandsIn}

abbrev Rows : Type 0
Rows = List (List ℕ)

-- the row of a literal, and those of others, where one row is set
pub row_set : (rows : Rows) (number : ℕ) (places : List ℕ) (l : Lit) → number < length rows → code l ≡ number → get_or (set rows number places) (code l) [] ≡ places
row_set rows number places l low e = ap (λ (k : ℕ). get_or (set rows number places) k []) e ∙ get_or-set_same rows number places [] low

pub row_other : (rows : Rows) (number : ℕ) (places : List ℕ) (l : Lit) → (code l ≡ number → ⊥) → get_or (set rows number places) (code l) [] ≡ get_or rows (code l) []
row_other rows number places l other = get_or-set_other rows number (code l) places [] other

contains_push : (xs : List ℕ) (x k : ℕ) → Contains xs k → Contains (xs ++ x ∷ []) k
contains_push xs x k (i, low, is) = (i, omega (arith, low, length-append xs (x ∷ [])), get_or_append_left xs (x ∷ []) k i low ∙ is)

contains_last : (xs : List ℕ) (x : ℕ) → Contains (xs ++ x ∷ []) x
contains_last xs x = (length xs, omega (arith, length-append xs (x ∷ [])), get_or_push xs x x (length xs) refl)

pub stands_still : (rows : Rows) (number place : ℕ) → number < length rows → (l : Lit) (k : ℕ) → StandsIn rows l k → StandsIn (set rows number (get_or rows number [] ++ place ∷ [])) l k
stands_still rows number place low l k s = elim (cases_eq (code l) number) [
  | inl e ↦
      let places : List ℕ = get_or rows number [] in
      subst (λ (xs : List ℕ). Contains xs k) (sym (row_set rows number (places ++ place ∷ []) l low e)) (contains_push places place k (subst (λ (j : ℕ). Contains (get_or rows j []) k) e s))
  | inr other ↦ subst (λ (xs : List ℕ). Contains xs k) (sym (row_other rows number (get_or rows number [] ++ place ∷ []) l other)) s
]

pub stands_last : (rows : Rows) (number place : ℕ) (l : Lit) → number < length rows → number ≡ code l → StandsIn (set rows number (get_or rows number [] ++ place ∷ [])) l place
stands_last rows number place l low e =
    let places : List ℕ = get_or rows number [] in
    subst (λ (xs : List ℕ). Contains xs place) (sym (row_set rows number (places ++ place ∷ []) l low (sym e))) (contains_last places place)

-- an entry that is taken off: another one stays, ahead if it was
moved_to : (places : List ℕ) (index m x : ℕ) → index < length places → m < length places → (m ≡ index → ⊥) → (m < length places - 1) ⊎ (m + 1 ≡ length places)
moved_to places index m x h k other = elim (cases_lt m (length places - 1)) [
  | inl low ↦ inl low
  | inr high ↦ inr (omega (arith, high, k))
]

length_swap : (places : List ℕ) (index x : ℕ) → index < length places → length (swap_remove places index x) ≡ length places - 1
length_swap places index x h =
    let s : List ℕ = set places index (get_or places (length places - 1) x) in
    length-take-le (length places - 1) s (omega (arith, length-set places index (get_or places (length places - 1) x)))

pub ahead_still : (places : List ℕ) (index place k : ℕ) → index < length places → place ≡ get_or places index place → (k ≡ place → ⊥) → IsAhead places index k → IsAhead (swap_remove places index place) index k
ahead_still places index place k h is other (m, from, low, there) =
    let last : ℕ = get_or places (length places - 1) place in
    let s : List ℕ = set places index last in
    let short = length_swap places index place h in
    let apart : m ≡ index → ⊥ = λ e. other (sym there ∙ ap (λ (j : ℕ). get_or places j 0) e ∙ get_or_default places index 0 place h ∙ sym is) in
    elim (moved_to places index m place h low apart) [
      | inl before ↦ (
        m,
        from,
        omega (arith, before, short),
        get_or-take (length places - 1) s m 0 before ∙ get_or-set_other places index m last 0 apart ∙ there,
      )
      | inr end ↦
          let inside : index < length places - 1 = omega (arith, from, end, λ (e : m ≡ index). apart e, cases_eq m index) in (
            index,
            omega arith,
            omega (arith, inside, short),
            get_or-take (length places - 1) s index 0 inside ∙ get_or-set_same places index last 0 h ∙ get_or_default places (length places - 1) place 0 (omega (arith, h)) ∙ ap (λ (j : ℕ). get_or places j 0) (omega (arith, end)) ∙ there,
          )
    ]

-- from the first index on a place is ahead where it stands
pub ahead_first : (places : List ℕ) (k : ℕ) → Contains places k → IsAhead places 0 k
ahead_first places k (m, low, is) = (m, omega arith, low, get_or_default places m 0 k low ∙ is)

pub behind_all : (places : List ℕ) (k index : ℕ) → length places ≤ index → IsAhead places index k → ⊥
behind_all places k index h (m, from, low, is) = omega (arith, h, from, low)

pub ahead_next : (places : List ℕ) (index place k : ℕ) → index < length places → place ≡ get_or places index place → (k ≡ place → ⊥) → IsAhead places index k → IsAhead places (index + 1) k
ahead_next places index place k h is other (m, from, low, there) =
    let apart : m ≡ index → ⊥ = λ e. other (sym there ∙ ap (λ (j : ℕ). get_or places j 0) e ∙ get_or_default places index 0 place h ∙ sym is) in
    elim (cases_lt index m) [
      | inl after ↦ (m, omega (arith, after), low, there)
      | inr before ↦ absurd (apart (omega (arith, before, from)))
    ]

-- a place that is another one stands where it stood
contains_still : (places : List ℕ) (index place k : ℕ) → index < length places → place ≡ get_or places index place → (k ≡ place → ⊥) → Contains places k → Contains (swap_remove places index place) k
contains_still places index place k h is other (m, low, there) =
    let last : ℕ = get_or places (length places - 1) place in
    let s : List ℕ = set places index last in
    let short = length_swap places index place h in
    let apart : m ≡ index → ⊥ = λ e. other (sym there ∙ ap (λ (j : ℕ). get_or places j k) e ∙ get_or_default places index k place h ∙ sym is) in
    elim (moved_to places index m place h low apart) [
      | inl before ↦ (m, omega (arith, before, short), get_or-take (length places - 1) s m k before ∙ get_or-set_other places index m last k apart ∙ there)
      | inr end ↦ elim (cases_lt index (length places - 1)) [
        | inl inside ↦ (
          index,
          omega (arith, inside, short),
          get_or-take (length places - 1) s index k inside ∙ get_or-set_same places index last k h ∙ get_or_default places (length places - 1) place k (omega (arith, h)) ∙ ap (λ (j : ℕ). get_or places j k) (omega (arith, end)) ∙ there,
        )
        | inr outside ↦ absurd (apart (omega (arith, outside, end, h)))
      ]
    ]

pub stands_beside : (rows : Rows) (number index place : ℕ) → number < length rows → index < length (get_or rows number []) → place ≡ get_or (get_or rows number []) index place
    → (l : Lit) (k : ℕ) → (code l ≡ number → k ≡ place → ⊥) → StandsIn rows l k → StandsIn (set rows number (swap_remove (get_or rows number []) index place)) l k
stands_beside rows number index place low h is l k other s = elim (cases_eq (code l) number) [
  | inl e ↦
      let places : List ℕ = get_or rows number [] in
      subst (λ (xs : List ℕ). Contains xs k) (sym (row_set rows number (swap_remove places index place) l low e)) (contains_still places index place k h is (other e) (subst (λ (j : ℕ). Contains (get_or rows j []) k) e s))
  | inr apart ↦ subst (λ (xs : List ℕ). Contains xs k) (sym (row_other rows number (swap_remove (get_or rows number []) index place) l apart)) s
]

-- rows with a place more in the row of a literal
abbrev pub IsPut : Rows → Lit → ℕ → Rows → Type 0
IsPut rows l place new = new ≡ set rows (code l) (get_or rows (code l) [] ++ place ∷ [])

pub put_still : (rows new : Rows) (m : Lit) (place : ℕ) → code m < length rows → IsPut rows m place new → (l : Lit) (k : ℕ) → StandsIn rows l k → StandsIn new l k
put_still rows new m place low e l k s = subst (λ (xs : Rows). StandsIn xs l k) (sym e) (stands_still rows (code m) place low l k s)

pub put_there : (rows new : Rows) (m : Lit) (place : ℕ) → code m < length rows → IsPut rows m place new → StandsIn new m place
put_there rows new m place low e = subst (λ (xs : Rows). StandsIn xs m place) (sym e) (stands_last rows (code m) place m low refl)

pub put_length : (rows new : Rows) (m : Lit) (place : ℕ) → IsPut rows m place new → length new ≡ length rows
put_length rows new m place e = ap (length {A = List ℕ}) e ∙ length-set rows (code m) _

-- the same, where the row may have been left as it is
pub put_or_not : {T E : Type 0} → (r : Result T E) (rows new : Rows) (m : Lit) (place : ℕ) → code m < length rows → OnOk r (IsPut rows m place new) → OnErr r (new ≡ rows) → (l : Lit) (k : ℕ) → StandsIn rows l k → StandsIn new l k
put_or_not (Ok x) rows new m place low ok err l k s = put_still rows new m place low ok l k s
put_or_not (Err e) rows new m place low ok err l k s = subst (λ (xs : Rows). StandsIn xs l k) (sym err) s

pub put_ok : {T E : Type 0} → (r : Result T E) (rows new : Rows) (m : Lit) (place : ℕ) → code m < length rows → OnOk r (IsPut rows m place new) → OnOk r (StandsIn new m place)
put_ok (Ok x) rows new m place low ok = put_there rows new m place low ok
put_ok (Err e) rows new m place low ok = tt

pub put_as_many : {T E : Type 0} → (r : Result T E) (rows new : Rows) (m : Lit) (place : ℕ) → OnOk r (IsPut rows m place new) → OnErr r (new ≡ rows) → length new ≡ length rows
put_as_many (Ok x) rows new m place ok err = put_length rows new m place ok
put_as_many (Err e) rows new m place ok err = ap (length {A = List ℕ}) err

-- a place in the rows of two literals
pub record AreTwoPut (rows new : Rows) (p : Pair) (place : ℕ) : Type 0 where
  pub kept : (l : Lit) (k : ℕ) → StandsIn rows l k → StandsIn new l k
  pub first : StandsIn new p.first place
  pub second : StandsIn new p.second place

pub on_ok_anyway : {T E P : Type 0} → (r : Result T E) → P → OnOk r P
on_ok_anyway (Ok x) p = p
on_ok_anyway (Err e) p = tt

pub on_err_anyway : {T E P : Type 0} → (r : Result T E) → P → OnErr r P
on_err_anyway (Ok x) p = tt
on_err_anyway (Err e) p = p

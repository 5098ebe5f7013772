-- Which place a table of rows gives.
use Rattle.std.proofs.Common.{◌≡◌, ◌++◌, ◌+◌, ◌-◌, ◌*◌, ◌⊎◌, ◌/◌, ◌%◌, ◌<◌, ◌≤◌, ℕ, zero, suc, Bool, true, false, cond, List, [], ◌∷◌, Option, None, Some, length, get_or, map, set, refl, sym, ap, subst, ◌∙◌, inl, inr, arith}
use Rattle.std.specs.BTreeMap.{is_at}
use Rattle.std.specs.Ordering.{nat_cmp}
use Rattle.std.proofs.lemmas.Bool.{cases_eq, cases_lt}
use Rattle.std.proofs.lemmas.List.{get_or_default, get_or_past, get_or-set_other, get_or-set_same}
use Rattle.places.specs.Places.{IsFirstPlaced, IsNextPlaced, place_of}
use Rattle.places.specs.Placed.{AreRows, rows_from}
use Rattle.places.proofs.Ids.{other_id, own_id}

abbrev pub Entries : Type 0
Entries = List (ℕ × ℕ)

-- the entries of a row, where it begins with an id
abbrev moved : ℕ → Entries → Entries
moved first row = map (λ e. (first + e.0, e.1)) row

same_test : (first k j : ℕ) → is_at (nat_cmp (first + k)) (first + j) ≡ is_at (nat_cmp k) j
same_test first k j = elim (cases_eq k j) [
  | inl here ↦ ap (λ (n : ℕ). is_at (nat_cmp (first + n)) (first + j)) here ∙ own_id (first + j) ∙ sym (ap (λ (n : ℕ). is_at (nat_cmp n) j) here ∙ own_id j)
  | inr other ↦ other_id (first + k) (first + j) (λ e. other (omega (arith, e))) ∙ sym (other_id k j other)
]

found_moved : (first : ℕ) (row : Entries) (k : ℕ) → place_of (moved first row) (first + k) ≡ place_of row k
found_moved first [] k = refl
found_moved first (e ∷ es) k =
    ap (λ (t : Bool). cond t (Some e.1) (place_of (moved first es) (first + k))) (same_test first k e.0)
    ∙ ap (λ (o : Option ℕ). cond (is_at (nat_cmp k) e.0) (Some e.1) o) (found_moved first es k)

none_before : (first : ℕ) (row : Entries) (q : ℕ) → q < first → place_of (moved first row) q ≡ None
none_before first [] q h = refl
none_before first (e ∷ es) q h =
    ap (λ (t : Bool). cond t (Some e.1) (place_of (moved first es) q)) (other_id q (first + e.0) (λ same. omega (arith, same, h)))
    ∙ none_before first es q h

-- one list of entries behind another
first_then : (test : Bool) (place : ℕ) (o p : Option ℕ) → o ≡ p → cond test (Some place) o ≡ cond test (Some place) p
first_then test place o p e = ap (λ (x : Option ℕ). cond test (Some place) x) e

in_first : (xs ys : Entries) (q : ℕ) → place_of ys q ≡ None → place_of (xs ++ ys) q ≡ place_of xs q
in_first [] ys q h = h
in_first (x ∷ xs) ys q h = first_then (is_at (nat_cmp q) x.0) x.1 (place_of (xs ++ ys) q) (place_of xs q) (in_first xs ys q h)

in_second : (xs ys : Entries) (q : ℕ) → place_of xs q ≡ None → place_of (xs ++ ys) q ≡ place_of ys q
in_second [] ys q h = refl
in_second (x ∷ xs) ys q h = passed (is_at (nat_cmp q) x.0) x.1 (place_of xs q) (place_of (xs ++ ys) q) (place_of ys q) h (in_second xs ys q)
  where
    some_is_none : (place : ℕ) → Some place ≡ None → ⊥
    some_is_none place h = cc

    passed : (test : Bool) (place : ℕ) (o p r : Option ℕ) → cond test (Some place) o ≡ None → (o ≡ None → p ≡ r) → cond test (Some place) p ≡ r
    passed true place o p r h f = absurd (some_is_none place h)
    passed false place o p r h f = f h

none_before_rows : (first : ℕ) (rows : List Entries) (q : ℕ) → q < first → place_of (rows_from first rows) q ≡ None
none_before_rows first [] q h = refl
none_before_rows first (row ∷ rows) q h =
    in_second (moved first row) (rows_from (first + 1024) rows) q (none_before first row q h) ∙ none_before_rows (first + 1024) rows q (omega (arith, h))

-- the place of an id is that of its offset in its row
found_row : (first : ℕ) (rows : List Entries) → AreRows rows → (r k q : ℕ) → k < 1024 → first + (1024 * r + k) ≡ q → place_of (rows_from first rows) q ≡ place_of (get_or rows r []) k
found_row first [] are r k q low e = refl
found_row first (row ∷ rows) are zero k q low e =
    in_first (moved first row) (rows_from (first + 1024) rows) q (none_before_rows (first + 1024) rows q (omega (arith, low, e)))
    ∙ subst (λ (n : ℕ). place_of (moved first row) n ≡ place_of row k) (omega (arith, e)) (found_moved first row k)
found_row first (row ∷ rows) are (suc r) k q low e =
    let beyond : 1024 ≤ 1024 * suc r + k = omega arith in
    let absent : place_of (moved first row) q ≡ None = subst (λ (n : ℕ). place_of (moved first row) n ≡ None) e (found_moved first row (1024 * suc r + k) ∙ are 0 (1024 * suc r + k) beyond) in
    in_second (moved first row) (rows_from (first + 1024) rows) q absent
    ∙ found_row (first + 1024) rows (λ j. are (suc j)) r k q low (omega (arith, e))

pub in_row : (rows : List Entries) → AreRows rows → (q : ℕ) → place_of (rows_from 0 rows) q ≡ place_of (get_or rows (q / 1024) []) (q % 1024)
in_row rows are q = found_row 0 rows are (q / 1024) (q % 1024) q (omega arith) (omega arith)

pub still_rows : (rows : List Entries) (row : Entries) (id : ℕ) (o : Option ℕ) → AreRows rows → id / 1024 < length rows
    → ((j : ℕ) → place_of row j ≡ cond (is_at (nat_cmp (id % 1024)) j) o (place_of (get_or rows (id / 1024) []) j)) → AreRows (set rows (id / 1024) row)
still_rows rows row id o are there given r offset beyond = elim (cases_eq r (id / 1024)) as (λ _. place_of (get_or (set rows (id / 1024) row) r []) offset ≡ None) [
  | inl here ↦
      ap (λ (k : ℕ). place_of (get_or (set rows (id / 1024) row) k []) offset) here
      ∙ ap (λ (es : Entries). place_of es offset) (get_or-set_same rows (id / 1024) row [] there)
      ∙ given offset
      ∙ ap (λ (t : Bool). cond t o (place_of (get_or rows (id / 1024) []) offset)) (other_id (id % 1024) offset (λ e. omega (arith, e, beyond)))
      ∙ are (id / 1024) offset beyond
  | inr other ↦ ap (λ (es : Entries). place_of es offset) (get_or-set_other rows (id / 1024) r row [] other) ∙ are r offset beyond
]

-- an id beyond the table has no place
pub beyond_rows : (rows : List Entries) → AreRows rows → (id : ℕ) → length rows ≤ id / 1024 → place_of (rows_from 0 rows) id ≡ None
beyond_rows rows are id h = in_row rows are id ∙ ap (λ (es : Entries). place_of es (id % 1024)) (get_or_past rows (id / 1024) [] h)

pub nothing_taken : (es : Entries) (id : ℕ) → place_of es id ≡ None → (q : ℕ) → place_of es q ≡ cond (is_at (nat_cmp id) q) None (place_of es q)
nothing_taken es id h q = elim (cases_eq q id) as (λ _. place_of es q ≡ cond (is_at (nat_cmp id) q) None (place_of es q)) [
  | inl here ↦
      ap (place_of es) here ∙ h
      ∙ sym (subst (λ r. cond {A = Option ℕ} (is_at (nat_cmp id) r) None (place_of es r) ≡ None) (sym here) (ap (λ (t : Bool). cond {A = Option ℕ} t None (place_of es id)) (own_id id)))
  | inr other ↦ sym (ap (λ (t : Bool). cond {A = Option ℕ} t None (place_of es q)) (other_id id q (λ e. other (sym e))))
]

-- the row of an id has its place
pub row_at_has : (rows : List Entries) (row : Entries) (id r k : ℕ) → r ≡ id / 1024 → k ≡ id % 1024 → AreRows rows → r < length rows → row ≡ get_or rows r row → place_of row k ≡ place_of (rows_from 0 rows) id
row_at_has rows row id r k e f are there is =
    ap (place_of row) f
    ∙ ap (λ (es : Entries). place_of es (id % 1024)) (is ∙ sym (get_or_default rows r [] row there) ∙ ap (λ (n : ℕ). get_or rows n []) e)
    ∙ sym (in_row rows are id)

-- a row more without a place
pub one_row_more : (first : ℕ) (rows : List Entries) → rows_from first (rows ++ [] ∷ []) ≡ rows_from first rows
one_row_more first [] = refl
one_row_more first (row ∷ rows) = ap (λ (es : Entries). moved first row ++ es) (one_row_more (first + 1024) rows)

empty_row : (rows : List Entries) (r : ℕ) → get_or (rows ++ [] ∷ []) r [] ≡ get_or rows r []
empty_row [] zero = refl
empty_row [] (suc r) = refl
empty_row (row ∷ rows) zero = refl
empty_row (row ∷ rows) (suc r) = empty_row rows r

pub are_one_more : (rows : List Entries) → AreRows rows → AreRows (rows ++ [] ∷ [])
are_one_more rows are r offset beyond = ap (λ (es : Entries). place_of es offset) (empty_row rows r) ∙ are r offset beyond

-- an id in a row is given another place, or none
pub given_in_row : (rows : List Entries) (row : Entries) (id : ℕ) (o : Option ℕ) → AreRows rows → id / 1024 < length rows
    → ((j : ℕ) → place_of row j ≡ cond (is_at (nat_cmp (id % 1024)) j) o (place_of (get_or rows (id / 1024) []) j))
    → (q : ℕ) → place_of (rows_from 0 (set rows (id / 1024) row)) q ≡ cond (is_at (nat_cmp id) q) o (place_of (rows_from 0 rows) q)
given_in_row rows row id o are there given q =
    in_row (set rows (id / 1024) row) (still_rows rows row id o are there given) q ∙ elim (cases_eq (q / 1024) (id / 1024)) as (λ _. place_of (get_or (set rows (id / 1024) row) (q / 1024) []) (q % 1024) ≡ cond (is_at (nat_cmp id) q) o (place_of (rows_from 0 rows) q)) [
      | inl here ↦
          ap (λ (r : ℕ). place_of (get_or (set rows (id / 1024) row) r []) (q % 1024)) here
          ∙ ap (λ (es : Entries). place_of es (q % 1024)) (get_or-set_same rows (id / 1024) row [] there)
          ∙ given (q % 1024)
          ∙ same_row here (cases_eq (id % 1024) (q % 1024))
      | inr other ↦
          ap (λ (es : Entries). place_of es (q % 1024)) (get_or-set_other rows (id / 1024) (q / 1024) row [] other)
          ∙ sym (in_row rows are q)
          ∙ sym (ap (λ (t : Bool). cond t o (place_of (rows_from 0 rows) q)) (other_id id q (λ e. other (sym (ap (λ (n : ℕ). n / 1024) e)))))
    ]
  where
    same_row : q / 1024 ≡ id / 1024 → ((id % 1024 ≡ q % 1024) ⊎ (id % 1024 ≡ q % 1024 → ⊥))
        → cond (is_at (nat_cmp (id % 1024)) (q % 1024)) o (place_of (get_or rows (id / 1024) []) (q % 1024)) ≡ cond (is_at (nat_cmp id) q) o (place_of (rows_from 0 rows) q)
    same_row here (inl same) =
        let both : id ≡ q = omega (arith, here, same) in
        ap (λ (t : Bool). cond t o (place_of (get_or rows (id / 1024) []) (q % 1024))) (ap (λ (n : ℕ). is_at (nat_cmp n) (q % 1024)) same ∙ own_id (q % 1024))
        ∙ sym (ap (λ (t : Bool). cond t o (place_of (rows_from 0 rows) q)) (ap (λ (n : ℕ). is_at (nat_cmp n) q) both ∙ own_id q))
    same_row here (inr other) =
        ap (λ (t : Bool). cond t o (place_of (get_or rows (id / 1024) []) (q % 1024))) (other_id (id % 1024) (q % 1024) other)
        ∙ ap (λ (r : ℕ). place_of (get_or rows r []) (q % 1024)) (sym here) ∙ sym (in_row rows are q)
        ∙ sym (ap (λ (t : Bool). cond t o (place_of (rows_from 0 rows) q)) (other_id id q (λ e. other (ap (λ (n : ℕ). n % 1024) e))))

-- the same where the row and the offset are named
pub given_at : (rows : List Entries) (old row : Entries) (id r k : ℕ) (o : Option ℕ) → r ≡ id / 1024 → k ≡ id % 1024 → AreRows rows → r < length rows → old ≡ get_or rows r old
    → ((j : ℕ) → place_of row j ≡ cond (is_at (nat_cmp k) j) o (place_of old j))
    → AreRows (set rows r row) × ((q : ℕ) → place_of (rows_from 0 (set rows r row)) q ≡ cond (is_at (nat_cmp id) q) o (place_of (rows_from 0 rows) q))
given_at rows old row id r k o e f are there is given =
    let low : id / 1024 < length rows = omega (arith, there, e) in
    let its : old ≡ get_or rows (id / 1024) [] = is ∙ sym (get_or_default rows r [] old there) ∙ ap (λ (n : ℕ). get_or rows n []) e in
    let so : (j : ℕ) → place_of row j ≡ cond (is_at (nat_cmp (id % 1024)) j) o (place_of (get_or rows (id / 1024) []) j) =
    λ j. given j ∙ ap (λ (n : ℕ). cond (is_at (nat_cmp n) j) o (place_of old j)) f ∙ ap (λ (es : Entries). cond (is_at (nat_cmp (id % 1024)) j) o (place_of es j)) its in
    subst (λ (n : ℕ). AreRows (set rows n row) × ((q : ℕ) → place_of (rows_from 0 (set rows n row)) q ≡ cond (is_at (nat_cmp id) q) o (place_of (rows_from 0 rows) q))) (sym e)
    (still_rows rows row id o are low so, given_in_row rows row id o are low so)

-- going through the table from one id to the next
at_offset : (rows : List Entries) → AreRows rows → (r : ℕ) (row : Entries) → r < length rows → row ≡ get_or rows r row → (q : ℕ) → 1024 * r ≤ q → q < 1024 * (r + 1) → place_of (rows_from 0 rows) q ≡ place_of row (q - 1024 * r)
at_offset rows are r row there is q above below =
    found_row 0 rows are r (q - 1024 * r) q (omega arith) (omega (arith, above)) ∙ ap (λ (es : Entries). place_of es (q - 1024 * r)) (get_or_default rows r [] row there ∙ sym is)

pub in_its_row : (rows : List Entries) → AreRows rows → (r offset next : ℕ) (row : Entries) → r < length rows → row ≡ get_or rows r row → IsFirstPlaced row offset next → next < 1024
in_its_row rows are r offset next row there is found = elim (cases_lt next 1024) [
  | inl low ↦ low
  | inr high ↦ absurd (none_is_some found.1.0 (sym (are r next high) ∙ ap (λ (es : Entries). place_of es next) (get_or_default rows r [] row there ∙ sym is) ∙ found.1.1))
]
  where
    none_is_some : (k : ℕ) → None ≡ Some k → ⊥
    none_is_some k h = cc

pub found_above : (rows : List Entries) → AreRows rows → (id r offset next : ℕ) (row : Entries) → r < length rows → row ≡ get_or rows r row → IsFirstPlaced row offset next → id + 1 ≤ 1024 * r + offset
    → ((q : ℕ) → id < q → q < 1024 * r + offset → place_of (rows_from 0 rows) q ≡ None) → IsNextPlaced (rows_from 0 rows) id (1024 * r + next)
found_above rows are id r offset next row there is found low so_far =
    let short : next < 1024 = in_its_row rows are r offset next row there is found in (
      omega (arith, low, found.0),
      (found.1.0, at_offset rows are r row there is (1024 * r + next) (omega arith) (omega (arith, short)) ∙ ap (place_of row) (omega arith) ∙ found.1.1),
      λ q above below. elim (cases_lt q (1024 * r + offset)) [
        | inl before ↦ so_far q above before
        | inr behind ↦ at_offset rows are r row there is q (omega (arith, behind)) (omega (arith, below, short)) ∙ found.2 (q - 1024 * r) (omega (arith, behind)) (omega (arith, below, behind))
      ],
    )

pub none_in_row : (rows : List Entries) → AreRows rows → (id r offset : ℕ) (row : Entries) → r < length rows → row ≡ get_or rows r row → ((k : ℕ) → offset ≤ k → place_of row k ≡ None)
    → ((q : ℕ) → id < q → q < 1024 * r + offset → place_of (rows_from 0 rows) q ≡ None) → (q : ℕ) → id < q → q < 1024 * (r + 1) + 0 → place_of (rows_from 0 rows) q ≡ None
none_in_row rows are id r offset row there is none so_far q above below = elim (cases_lt q (1024 * r + offset)) [
  | inl before ↦ so_far q above before
  | inr behind ↦ at_offset rows are r row there is q (omega (arith, behind)) (omega (arith, below)) ∙ none (q - 1024 * r) (omega (arith, behind))
]

pub none_above : (rows : List Entries) → AreRows rows → (id r offset : ℕ) → length rows ≤ r → ((q : ℕ) → id < q → q < 1024 * r + offset → place_of (rows_from 0 rows) q ≡ None) → (q : ℕ) → id < q → place_of (rows_from 0 rows) q ≡ None
none_above rows are id r offset end so_far q above = elim (cases_lt q (1024 * r + offset)) [
  | inl before ↦ so_far q above before
  | inr behind ↦ beyond_rows rows are q (omega (arith, end, behind))
]

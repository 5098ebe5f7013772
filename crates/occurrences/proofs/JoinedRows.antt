-- Lists of small entries and of the rest, joined.
use Rattle.std.proofs.Common.{◌≡◌, ◌==◌, ◌⊎◌, inl, inr, Bool, true, false, ℕ, zero, suc, ◌+◌, ◌-◌, ◌<◌, ◌≤◌, List, [], ◌∷◌, ◌++◌, length, get_or, set, take, map, refl, ap, sym, ◌∙◌, append_assoc, append-nil, length-append, arith}
use Rattle.std.proofs.lemmas.Bool.Decides.{nat_tests}
use Rattle.std.proofs.lemmas.List.{length-map, map_push}
use Rattle.occurrences.specs.declared.occurrence.Occurrence.{Occurrence}
use Rattle.occurrences.specs.declared.occurrence.SmallOccurrence.{SmallOccurrence}
use Rattle.occurrences.specs.Rows.{joined, widened}

abbrev Smalls : Type 0
Smalls = List (List SmallOccurrence)

abbrev Rests : Type 0
Rests = List (List Occurrence)

pub joined_length : (ss : Smalls) (rs : Rests) → length (joined ss rs) ≡ length ss
joined_length [] rs = refl
joined_length (s ∷ ss) [] = omega (arith, joined_length ss [])
joined_length (s ∷ ss) (r ∷ rs) = omega (arith, joined_length ss rs)

-- the list of a number
pub joined_at : (ss : Smalls) (rs : Rests) (k : ℕ) → length rs ≤ length ss → get_or (joined ss rs) k [] ≡ map widened (get_or ss k []) ++ get_or rs k []
joined_at [] [] k h = refl
joined_at [] (r ∷ rs) k h = absurd (omega (arith, h))
joined_at (s ∷ ss) [] zero h = sym (append-nil (map widened s))
joined_at (s ∷ ss) [] (suc k) h = joined_at ss [] k (omega arith)
joined_at (s ∷ ss) (r ∷ rs) zero h = refl
joined_at (s ∷ ss) (r ∷ rs) (suc k) h = joined_at ss rs k (omega (arith, h))

-- empty lists more in the second table change nothing
pub joined_same : (ss : Smalls) (rs os : Rests) → ((k : ℕ) → get_or os k [] ≡ get_or rs k []) → joined ss os ≡ joined ss rs
joined_same [] rs os h = refl
joined_same (s ∷ ss) [] [] h = refl
joined_same (s ∷ ss) [] (o ∷ os) h =
    ap (λ (xs : List Occurrence). (map widened s ++ xs) ∷ joined ss os) (h 0) ∙ ap (λ (xs : List Occurrence). xs ∷ joined ss os) (append-nil (map widened s)) ∙ ap (λ (xs : Rests). map widened s ∷ xs) (joined_same ss [] os (λ k. h (suc k)))
joined_same (s ∷ ss) (r ∷ rs) [] h =
    ap (λ (xs : Rests). map widened s ∷ xs) (joined_same ss rs [] (λ k. h (suc k))) ∙ ap (λ (xs : List Occurrence). xs ∷ joined ss rs) (sym (append-nil (map widened s))) ∙ ap (λ (xs : List Occurrence). (map widened s ++ xs) ∷ joined ss rs) (h 0)
joined_same (s ∷ ss) (r ∷ rs) (o ∷ os) h =
    ap (λ (xs : List Occurrence). (map widened s ++ xs) ∷ joined ss os) (h 0) ∙ ap (λ (xs : Rests). (map widened s ++ r) ∷ xs) (joined_same ss rs os (λ k. h (suc k)))

-- one list is changed, in either table
pub joined_small : (ss : Smalls) (rs : Rests) (k : ℕ) (x : List SmallOccurrence) → k < length ss → joined (set ss k x) rs ≡ set (joined ss rs) k (map widened x ++ get_or rs k [])
joined_small [] rs k x h = absurd (omega (arith, h))
joined_small (s ∷ ss) [] zero x h = ap (λ (xs : List Occurrence). xs ∷ joined ss []) (sym (append-nil (map widened x)))
joined_small (s ∷ ss) [] (suc k) x h = ap (λ (xs : Rests). map widened s ∷ xs) (joined_small ss [] k x (omega (arith, h)))
joined_small (s ∷ ss) (r ∷ rs) zero x h = refl
joined_small (s ∷ ss) (r ∷ rs) (suc k) x h = ap (λ (xs : Rests). (map widened s ++ r) ∷ xs) (joined_small ss rs k x (omega (arith, h)))

pub joined_rest : (ss : Smalls) (rs : Rests) (k : ℕ) (y : List Occurrence) → k < length rs → length rs ≤ length ss → joined ss (set rs k y) ≡ set (joined ss rs) k (map widened (get_or ss k []) ++ y)
joined_rest ss [] k y h few = absurd (omega (arith, h))
joined_rest [] (r ∷ rs) k y h few = absurd (omega (arith, few))
joined_rest (s ∷ ss) (r ∷ rs) zero y h few = refl
joined_rest (s ∷ ss) (r ∷ rs) (suc k) y h few = ap (λ (xs : Rests). (map widened s ++ r) ∷ xs) (joined_rest ss rs k y (omega (arith, h)) (omega (arith, few)))

-- one entry more at the end of a list
pub pushed_small : (ss : Smalls) (rs : Rests) (old : Rests) (k : ℕ) (small : SmallOccurrence) (entry : Occurrence) → joined ss rs ≡ old → length rs ≤ length ss → k < length ss → get_or rs k [] ≡ [] → widened small ≡ entry
    → joined (set ss k (get_or ss k [] ++ small ∷ [])) rs ≡ set old k (get_or old k [] ++ entry ∷ [])
pushed_small ss rs old k small entry is few low none same =
    let row : List SmallOccurrence = get_or ss k [] in
    let was : get_or old k [] ≡ map widened row = ap (λ (xs : Rests). get_or xs k []) (sym is) ∙ joined_at ss rs k few ∙ ap (λ (xs : List Occurrence). map widened row ++ xs) none ∙ append-nil (map widened row) in
    let now : map widened (row ++ small ∷ []) ++ get_or rs k [] ≡ get_or old k [] ++ entry ∷ [] =
    ap (λ (xs : List Occurrence). map widened (row ++ small ∷ []) ++ xs) none ∙ append-nil (map widened (row ++ small ∷ [])) ∙ map_push widened row small
    ∙ ap (λ (e : Occurrence). map widened row ++ e ∷ []) same ∙ ap (λ (xs : List Occurrence). xs ++ entry ∷ []) (sym was) in
    joined_small ss rs k (row ++ small ∷ []) low ∙ ap (λ (xs : Rests). set xs k (map widened (row ++ small ∷ []) ++ get_or rs k [])) is ∙ ap (λ (xs : List Occurrence). set old k xs) now

pub pushed_rest : (ss : Smalls) (rs : Rests) (old : Rests) (k : ℕ) (entry : Occurrence) → joined ss rs ≡ old → length rs ≤ length ss → k < length rs
    → joined ss (set rs k (get_or rs k [] ++ entry ∷ [])) ≡ set old k (get_or old k [] ++ entry ∷ [])
pushed_rest ss rs old k entry is few low =
    let row : List SmallOccurrence = get_or ss k [] in
    let was : get_or old k [] ≡ map widened row ++ get_or rs k [] = ap (λ (xs : Rests). get_or xs k []) (sym is) ∙ joined_at ss rs k few in
    joined_rest ss rs k (get_or rs k [] ++ entry ∷ []) low few ∙ ap (λ (xs : Rests). set xs k (map widened row ++ (get_or rs k [] ++ entry ∷ []))) is
    ∙ ap (λ (xs : List Occurrence). set old k xs) (sym (append_assoc (map widened row) (get_or rs k []) (entry ∷ [])) ∙ ap (λ (xs : List Occurrence). xs ++ entry ∷ []) (sym was))

-- a list without its last entry
map_take : (n : ℕ) (xs : List SmallOccurrence) → map widened (take n xs) ≡ take n (map widened xs)
map_take zero xs = refl
map_take (suc n) [] = refl
map_take (suc n) (x ∷ xs) = ap (λ (os : List Occurrence). widened x ∷ os) (map_take n xs)

take_behind : (xs ys : List Occurrence) (n : ℕ) → take (length xs + n) (xs ++ ys) ≡ xs ++ take n ys
take_behind [] ys n = ap (λ (k : ℕ). take k ys) (none_more n)
  where
    none_more : (n : ℕ) → 0 + n ≡ n
    none_more n = omega arith
take_behind (x ∷ xs) ys n = ap (λ (k : ℕ). take k (x ∷ (xs ++ ys))) (plus_suc (length xs) n) ∙ ap (λ (os : List Occurrence). x ∷ os) (take_behind xs ys n)
  where
    plus_suc : (m n : ℕ) → suc m + n ≡ suc (m + n)
    plus_suc m n = omega arith

pub popped_small : (ss : Smalls) (rs : Rests) (old : Rests) (k : ℕ) → joined ss rs ≡ old → length rs ≤ length ss → k < length ss → get_or rs k [] ≡ []
    → joined (set ss k (take (length (get_or ss k []) - 1) (get_or ss k []))) rs ≡ set old k (take (length (get_or old k []) - 1) (get_or old k []))
popped_small ss rs old k is few low none =
    let row : List SmallOccurrence = get_or ss k [] in
    let was : get_or old k [] ≡ map widened row = ap (λ (xs : Rests). get_or xs k []) (sym is) ∙ joined_at ss rs k few ∙ ap (λ (xs : List Occurrence). map widened row ++ xs) none ∙ append-nil (map widened row) in
    let count : length row ≡ length (get_or old k []) = omega (arith, ap (length {A = Occurrence}) was, length-map row widened) in
    let shorter : List SmallOccurrence = take (length row - 1) row in
    let now : map widened shorter ++ get_or rs k [] ≡ take (length (get_or old k []) - 1) (get_or old k []) =
    ap (λ (xs : List Occurrence). map widened shorter ++ xs) none ∙ append-nil (map widened shorter) ∙ map_take (length row - 1) row
    ∙ ap (λ (n : ℕ). take (n - 1) (map widened row)) count ∙ ap (λ (xs : List Occurrence). take (length (get_or old k []) - 1) xs) (sym was) in
    joined_small ss rs k shorter low ∙ ap (λ (xs : Rests). set xs k (map widened shorter ++ get_or rs k [])) is ∙ ap (λ (xs : List Occurrence). set old k xs) now

pub popped_rest : (ss : Smalls) (rs : Rests) (old : Rests) (k : ℕ) → joined ss rs ≡ old → length rs ≤ length ss → k < length rs → 0 < length (get_or rs k [])
    → joined ss (set rs k (take (length (get_or rs k []) - 1) (get_or rs k []))) ≡ set old k (take (length (get_or old k []) - 1) (get_or old k []))
popped_rest ss rs old k is few low some =
    let small : List Occurrence = map widened (get_or ss k []) in
    let row : List Occurrence = get_or rs k [] in
    let was : get_or old k [] ≡ small ++ row = ap (λ (xs : Rests). get_or xs k []) (sym is) ∙ joined_at ss rs k few in
    let count : length small + (length row - 1) ≡ length (small ++ row) - 1 = omega (arith, length-append small row, some) in
    let now : small ++ take (length row - 1) row ≡ take (length (get_or old k []) - 1) (get_or old k []) =
    sym (take_behind small row (length row - 1)) ∙ ap (λ (n : ℕ). take n (small ++ row)) count ∙ ap (λ (xs : List Occurrence). take (length xs - 1) xs) (sym was) in
    joined_rest ss rs k (take (length row - 1) row) low few ∙ ap (λ (xs : Rests). set xs k (small ++ take (length row - 1) row)) is ∙ ap (λ (xs : List Occurrence). set old k xs) now

-- a list that is not empty is of a number below the bound
pub some_below : (rs : Rests) (k : ℕ) → 0 < length (get_or rs k []) → k < length rs
some_below [] k h = absurd (omega (arith, h))
some_below (r ∷ rs) zero h = omega arith
some_below (r ∷ rs) (suc k) h = omega (arith, some_below rs k h)

pub number_below : (ss : Smalls) (rs : Rests) (old : Rests) (k : ℕ) → joined ss rs ≡ old → k < length old → k < length ss
number_below ss rs old k is low = omega (arith, low, ap (length {A = List Occurrence}) is, joined_length ss rs)

pub empty_row : (rs : Rests) (k : ℕ) (row : List Occurrence) (b : Bool) → row ≡ get_or rs k [] → b ≡ (length row == 0) → b ≡ true → get_or rs k [] ≡ []
empty_row rs k row b is said none = sym is ∙ without_any row (sym said ∙ none)
  where
    without_any : (xs : List Occurrence) → (length xs == 0) ≡ true → xs ≡ []
    without_any [] h = refl
    without_any (x ∷ xs) h = absurd (grind (arith, nat_tests))

pub some_row : (rs : Rests) (k : ℕ) (row : List Occurrence) (b : Bool) → row ≡ get_or rs k [] → b ≡ (length row == 0) → b ≡ false → 0 < length (get_or rs k [])
some_row rs k row b is said some = omega (arith, some_there row (sym said ∙ some), ap (length {A = Occurrence}) is)
  where
    some_there : (xs : List Occurrence) → (length xs == 0) ≡ false → 0 < length xs
    some_there xs h = grind (arith, nat_tests)

-- the second table is not longer than the first one
pub still_few : (ss : Smalls) (rs os : Rests) (count : ℕ) → length rs ≤ length ss → count ≡ length ss → (length os ≡ length rs) ⊎ (length os ≤ count) → length os ≤ length ss
still_few ss rs os count few is (inl e) = omega (arith, few, e)
still_few ss rs os count few is (inr h) = omega (arith, is, h)

-- Rows of vectors, seen as lists of lists.
use Rattle.std.proofs.Common.{◌≡◌, ℕ, zero, suc, ◌<◌, ◌≤◌, ◌⊎◌, inl, inr, List, [], ◌∷◌, ◌++◌, Vec, Global, length, length-append, get_or, set, map, refl, ap, sym, subst, ◌∙◌, arith}
use Rattle.std.proofs.lemmas.Bool.{cases_lt}
use Rattle.std.proofs.lemmas.List.{get_or-map, get_or-set_other, get_or-set_same, get_or_append_left, get_or_past, get_or_push, length-map, map_push}

abbrev pub Row : Type 0 → Type 0
Row E = Vec E Global

abbrev pub rows_of : {E : Type 0} → List (Row E) → List (List E)
rows_of = map (λ v. v.items)

pub rows_set : {E : Type 0} → (rows : List (Row E)) (k : ℕ) (v : Row E) → rows_of (set rows k v) ≡ set (rows_of rows) k v.items
rows_set {E = E} [] zero v = refl
rows_set {E = E} [] (suc k) v = refl
rows_set {E = E} (r ∷ rs) zero v = refl
rows_set {E = E} (r ∷ rs) (suc k) v = ap (λ (xs : List (List E)). r.items ∷ xs) (rows_set rs k v)

pub row_at : {E : Type 0} → (rows : List (Row E)) (k : ℕ) (r : Row E) → k < length rows → r ≡ get_or rows k r → r.items ≡ get_or (rows_of rows) k []
row_at {E = E} rows k r h is = ap (λ (v : Row E). v.items) is ∙ sym (get_or-map (λ (v : Row E). v.items) rows k r [] h)

set_same : {E : Type 0} → (xs : List (List E)) (k : ℕ) (ys : List E) → k < length xs → ys ≡ get_or xs k [] → set xs k ys ≡ xs
set_same {E = E} [] k ys h e = absurd (omega (arith, h))
set_same {E = E} (x ∷ xs) zero ys h e = ap (λ (zs : List E). zs ∷ xs) e
set_same {E = E} (x ∷ xs) (suc k) ys h e = ap (λ (zs : List (List E)). x ∷ zs) (set_same xs k ys (omega (arith, h)) e)

pub row_kept : {E : Type 0} → (rows : List (Row E)) (k : ℕ) (old new : Row E) → k < length rows → old ≡ get_or rows k old → new.items ≡ old.items → rows_of (set rows k new) ≡ rows_of rows
row_kept {E = E} rows k old new h is e = rows_set rows k new ∙ set_same (rows_of rows) k new.items (omega (arith, h, length-map rows (λ (v : Row E). v.items))) (e ∙ row_at rows k old h is)

pub row_changed : {E : Type 0} → (rows : List (Row E)) (now : List (List E)) (k : ℕ) (old new : Row E) (f : List E → List E) → k < length rows → old ≡ get_or rows k old → rows_of rows ≡ now → new.items ≡ f old.items → rows_of (set rows k new) ≡ set now k (f (get_or now k []))
row_changed {E = E} rows now k old new f h is same e =
    rows_set rows k new ∙ ap (λ (zs : List E). set (rows_of rows) k zs) (e ∙ ap f (row_at rows k old h is)) ∙ ap (λ (xs : List (List E)). set xs k (f (get_or xs k []))) same

-- a table with empty lists more
pub record IsWider {E : Type 0} (old new : List (List E)) : Type 0 where
  pub kept : (k : ℕ) → get_or new k [] ≡ get_or old k []
  pub longer : length old ≤ length new

row_empty : {E : Type 0} → (xs : List (List E)) (k : ℕ) → get_or (xs ++ [] ∷ []) k [] ≡ get_or xs k []
row_empty {E = E} [] zero = refl
row_empty {E = E} [] (suc k) = refl
row_empty {E = E} (x ∷ xs) zero = refl
row_empty {E = E} (x ∷ xs) (suc k) = row_empty xs k

pub wider_more : {E : Type 0} → (old : List (List E)) (rows new : List (Row E)) (r : Row E) → IsWider old (rows_of rows) → new ≡ rows ++ r ∷ [] → r.items ≡ [] → IsWider old (rows_of new)
wider_more {E = E} old rows new r w e empty =
    let same : rows_of new ≡ rows_of rows ++ [] ∷ [] = ap rows_of e ∙ map_push (λ (v : Row E). v.items) rows r ∙ ap (λ (os : List E). rows_of rows ++ os ∷ []) empty in
    record {
      kept = λ k. ap (λ (xs : List (List E)). get_or xs k []) same ∙ row_empty (rows_of rows) k ∙ w.kept k;
      longer = omega (arith, w.longer, ap (length {A = List E}) same, length-append (rows_of rows) ([] ∷ []));
    }

pub wider_same : {E : Type 0} → (old : List (List E)) (rows new : List (Row E)) → IsWider old (rows_of rows) → new ≡ rows → IsWider old (rows_of new)
wider_same {E = E} old rows new w e = subst (λ (rs : List (Row E)). IsWider old (rows_of rs)) (sym e) w

pub wide_itself : {E : Type 0} → (old : List (List E)) (rows : List (Row E)) → rows_of rows ≡ old → IsWider old (rows_of rows)
wide_itself {E = E} old rows e = record { kept = λ k. ap (λ (xs : List (List E)). get_or xs k []) e; longer = omega (arith, ap (length {A = List E}) e) }

-- the lists of all numbers but one are the same
abbrev pub AreSameBut : {E : Type 0} → ℕ → List (List E) → List (List E) → Type 0
AreSameBut {E = E} k old new = (j : ℕ) → (j ≡ k → ⊥) → get_or new j [] ≡ get_or old j []

pub others_kept : {E : Type 0} → (old new : List (List E)) (k : ℕ) (row : List E) → new ≡ set old k row → AreSameBut k old new
others_kept {E = E} old new k row e j other = ap (λ (xs : List (List E)). get_or xs j []) e ∙ get_or-set_other old k j row [] other

pub put_there : {E : Type 0} → (old new : List (List E)) (k : ℕ) (row : List E) → k < length old → new ≡ set old k row → get_or new k [] ≡ row
put_there {E = E} old new k row low e = ap (λ (xs : List (List E)). get_or xs k []) e ∙ get_or-set_same old k row [] low

-- a list more behind lists that only empty ones came to
pub record IsWidenedTo {E : Type 0} (old wide : List (List E)) (k : ℕ) : Type 0 where
  pub short : length old ≤ k
  pub long : k ≤ length wide
  pub most : (length wide ≡ length old) ⊎ (length wide ≤ k)
  pub kept : (j : ℕ) → get_or wide j [] ≡ get_or old j []

length_is : (n m k : ℕ) → n ≤ k → k ≤ m → (m ≡ n) ⊎ (m ≤ k) → m ≡ k
length_is n m k a b (inl e) = omega (arith, a, b, e)
length_is n m k a b (inr h) = omega (arith, b, h)

pub others_pushed : {E : Type 0} → (old wide new : List (List E)) (k : ℕ) (row : List E) → IsWidenedTo old wide k → new ≡ wide ++ row ∷ [] → AreSameBut k old new
others_pushed {E = E} old wide new k row w e j other =
    let many : length wide ≡ k = length_is (length old) (length wide) k w.short w.long w.most in
    ap (λ (xs : List (List E)). get_or xs j []) e ∙ elim (cases_lt j k) [
      | inl low ↦ get_or_append_left wide (row ∷ []) [] j (omega (arith, low, many)) ∙ w.kept j
      | inr past ↦ get_or_past (wide ++ row ∷ []) j [] (omega (arith, past, other, many, length-append wide (row ∷ []))) ∙ sym (get_or_past old j [] (omega (arith, past, w.short)))
    ]

pub pushed_there : {E : Type 0} → (old wide new : List (List E)) (k : ℕ) (row : List E) → IsWidenedTo old wide k → new ≡ wide ++ row ∷ [] → get_or new k [] ≡ row
pushed_there {E = E} old wide new k row w e =
    ap (λ (xs : List (List E)). get_or xs k []) e ∙ get_or_push wide row [] k (length_is (length old) (length wide) k w.short w.long w.most)

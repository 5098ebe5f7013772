-- Names keep their numbers when more are added.
use Rattle.std.proofs.Common.{◌≡◌, ℕ, ◌+◌, ◌<◌, ◌≤◌, Bool, true, false, not, cond, ◌||◌, List, [], ◌∷◌, ◌++◌, length, if◌then◌else◌, refl, ap, ◌∙◌, arith, length-append}
use Rattle.std.specs.Cmp.Lexicographic.{nat_list_eq_equiv}
use Rattle.linear.specs.Table.{same_name, has_name, place_of, with_name}

pub with_name-known : (names : List (List ℕ)) (name : List ℕ) → has_name names name ≡ true → with_name names name ≡ names
with_name-known names name h = ap (λ b. if b then names else names ++ name ∷ []) h

pub with_name-new : (names : List (List ℕ)) (name : List ℕ) → has_name names name ≡ false → length (with_name names name) ≡ length names + 1
with_name-new names name h = ap (λ b. length (if b then names else names ++ name ∷ [])) h ∙ length-append names (name ∷ [])

pub with_name-atmost : (names : List (List ℕ)) (name : List ℕ) → length (with_name names name) ≤ length names + 1
with_name-atmost names name = by (has_name names name)
  where
    by : (b : Bool) → length (if b then names else names ++ name ∷ []) ≤ length names + 1
    by true = omega arith
    by false = omega (arith, length-append names (name ∷ []))

pub with_name-more : (names : List (List ℕ)) (name : List ℕ) → length names ≤ length (with_name names name)
with_name-more names name = by (has_name names name)
  where
    by : (b : Bool) → length names ≤ length (if b then names else names ++ name ∷ [])
    by true = omega arith
    by false = omega (arith, length-append names (name ∷ []))

pub place_of-last : (names : List (List ℕ)) (name : List ℕ) → has_name names name ≡ false → place_of (names ++ name ∷ []) name ≡ place_of names name
place_of-last [] name h = by (same_name name name) (nat_list_eq_equiv.refl name)
  where
    by : (b : Bool) → b ≡ true → cond (not b) (1 + 0) 0 ≡ 0
    by true e = refl
    by false e = cc
place_of-last (n ∷ ns) name h = by (same_name name n) h (place_of-last ns name)
  where
    by : (b : Bool) → (b || has_name ns name) ≡ false → (has_name ns name ≡ false → place_of (ns ++ name ∷ []) name ≡ place_of ns name)
        → cond (not b) (1 + place_of (ns ++ name ∷ []) name) 0 ≡ cond (not b) (1 + place_of ns name) 0
    by true e rest = refl
    by false e rest = ap (λ k. 1 + k) (rest e)

-- a name that is there keeps its number
pub place_of-append : (names more : List (List ℕ)) (name : List ℕ) → has_name names name ≡ true → place_of (names ++ more) name ≡ place_of names name
place_of-append [] more name h = cc
place_of-append (n ∷ ns) more name h = by (same_name name n) h (place_of-append ns more name)
  where
    by : (b : Bool) → (b || has_name ns name) ≡ true → (has_name ns name ≡ true → place_of (ns ++ more) name ≡ place_of ns name)
        → cond (not b) (1 + place_of (ns ++ more) name) 0 ≡ cond (not b) (1 + place_of ns name) 0
    by true e rest = refl
    by false e rest = ap (λ k. 1 + k) (rest e)

pub has_name-append : (names more : List (List ℕ)) (name : List ℕ) → has_name names name ≡ true → has_name (names ++ more) name ≡ true
has_name-append [] more name h = cc
has_name-append (n ∷ ns) more name h = by (same_name name n) h (has_name-append ns more name)
  where
    by : (b : Bool) → (b || has_name ns name) ≡ true → (has_name ns name ≡ true → has_name (ns ++ more) name ≡ true) → (b || has_name (ns ++ more) name) ≡ true
    by true e rest = refl
    by false e rest = rest e

pub place_stays : (names : List (List ℕ)) (name other : List ℕ) → has_name names name ≡ true → place_of (with_name names other) name ≡ place_of names name
place_stays names name other h = by (has_name names other)
  where
    by : (b : Bool) → place_of (if b then names else names ++ other ∷ []) name ≡ place_of names name
    by true = refl
    by false = place_of-append names (other ∷ []) name h

pub has_stays : (names : List (List ℕ)) (name other : List ℕ) → has_name names name ≡ true → has_name (with_name names other) name ≡ true
has_stays names name other h = by (has_name names other)
  where
    by : (b : Bool) → has_name (if b then names else names ++ other ∷ []) name ≡ true
    by true = h
    by false = has_name-append names (other ∷ []) name h

pub has_name-last : (names : List (List ℕ)) (name : List ℕ) → has_name (names ++ name ∷ []) name ≡ true
has_name-last [] name = ap (λ b. b || false) (nat_list_eq_equiv.refl name)
has_name-last (n ∷ ns) name = by (same_name name n) (has_name-last ns name)
  where
    by : (b : Bool) → has_name (ns ++ name ∷ []) name ≡ true → (b || has_name (ns ++ name ∷ []) name) ≡ true
    by true e = refl
    by false e = e

-- a name has its number once it is added
pub number_of-added : (names : List (List ℕ)) (name : List ℕ) → (has_name (with_name names name) name ≡ true) × (place_of (with_name names name) name ≡ place_of names name)
number_of-added names name = by (has_name names name) refl
  where
    by : (b : Bool) → has_name names name ≡ b
        → (has_name (if b then names else names ++ name ∷ []) name ≡ true) × (place_of (if b then names else names ++ name ∷ []) name ≡ place_of names name)
    by true e = (e, refl)
    by false e = (has_name-last names name, place_of-last names name e)

pub place_of-less : (names : List (List ℕ)) (name : List ℕ) → has_name names name ≡ true → place_of names name < length names
place_of-less [] name h = cc
place_of-less (n ∷ ns) name h = by (same_name name n) h (place_of-less ns name)
  where
    by : (b : Bool) → (b || has_name ns name) ≡ true → (has_name ns name ≡ true → place_of ns name < length ns) → cond (not b) (1 + place_of ns name) 0 < length (n ∷ ns)
    by true e rest = omega arith
    by false e rest = omega (arith, rest e)

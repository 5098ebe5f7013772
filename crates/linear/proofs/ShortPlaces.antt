-- Each list of digits has a number of its own, so what is kept for the number of a name is that name's place; and what is kept
-- stays right where names come.
use Rattle.std.proofs.Common.{◌≡◌, ℕ, ◌+◌, ◌-◌, ◌<◌, ◌⊎◌, inl, inr, Bool, true, false, not, cond, ◌||◌, List, [], ◌∷◌, ◌++◌, Option, Some, None, IfSome, All, length, take, reverse, get_or, zero, suc, refl, sym, ap, subst, ◌∙◌, arith}
use Rattle.std.specs.List.{IsDistinct}
use Rattle.std.specs.Cmp.Lexicographic.{nat_list_eq_equiv}
use Rattle.std.proofs.lemmas.Bool.{true≢false}
use Rattle.std.proofs.lemmas.List.{get_or_append_left, length-append}
use Rattle.std.proofs.lemmas.List.Elements.{All-head, All-tail}
use Rattle.linear.specs.Table.{same_name, has_name, place_of, IsTable}
use Rattle.linear.specs.ShortNames.{number_from, IsDigit, IsShort, IsKeptAt, AreShortPlaces}
use Rattle.linear.proofs.Tables.{fresh_name}

-- each list of digits has a number of its own

one_list : (xs ys : List ℕ) → All IsDigit xs → All IsDigit ys → number_from xs ≡ number_from ys → xs ≡ ys
one_list [] [] a b e = refl
one_list [] (y ∷ ys) a b e = let h = All-head IsDigit y ys b in absurd (omega (arith, e, h.0, h.1))
one_list (x ∷ xs) [] a b e = let h = All-head IsDigit x xs a in absurd (omega (arith, e, h.0, h.1))
one_list (x ∷ xs) (y ∷ ys) a b e =
    let h = All-head IsDigit x xs a in
    let k = All-head IsDigit y ys b in
    let first : x ≡ y = omega (arith, e, h.0, h.1, k.0, k.1) in
    let rest : number_from xs ≡ number_from ys = omega (arith, e, h.0, h.1, k.0, k.1) in
    ap (λ z. z ∷ xs) first ∙ ap (λ zs. y ∷ zs) (one_list xs ys (All-tail IsDigit x xs a) (All-tail IsDigit y ys b) rest)

one_name : (name other : List ℕ) (number : ℕ) → IsShort name number → IsShort other number → name ≡ other
one_name name other number s t =
    s.spelled ∙ ap (λ ds. 120 ∷ reverse ds) (one_list s.digits t.digits s.are_digits t.are_digits (sym s.numbered ∙ t.numbered)) ∙ sym t.spelled

-- the name at a place of a table has that place

no_first : (a b : Bool) → (a || b) ≡ false → a ≡ false
no_first true b h = absurd (true≢false h)
no_first false b h = refl

place_at : (names : List (List ℕ)) (i : ℕ) (d : List ℕ) → IsDistinct same_name names → i < length names
    → (has_name names (get_or names i d) ≡ true) × (place_of names (get_or names i d) ≡ i)
unfolding IsDistinct
place_at [] i d distinct h = absurd (omega (arith, h))
place_at (n ∷ ns) zero d distinct h =
    let same = nat_list_eq_equiv.refl n in (ap (λ b. b || has_name ns n) same, ap (λ b. cond (not b) (1 + place_of ns n) 0) same)
place_at (n ∷ ns) (suc i) d distinct h =
    let name : List ℕ = get_or ns i d in
    let other : same_name name n ≡ false = no_first (same_name name n) (has_name (take i ns) name) (fresh_name (n ∷ ns) (suc i) d distinct h) in
    let rest = place_at ns i d distinct.1 (omega (arith, h)) in
    (ap (λ b. b || has_name ns name) other ∙ rest.0, ap (λ b. cond (not b) (1 + place_of ns name) 0) other ∙ omega (arith, rest.1))

-- what is kept for the number of a name is its place
pub short_found : (names : List (List ℕ)) (places name : List ℕ) (number place : ℕ) → IsTable names → AreShortPlaces names places → IsShort name number
    → IsKeptAt places number place → (has_name names name ≡ true) × (place ≡ place_of names name)
short_found names places name number place table short is at =
    let kept = short number place at in
    let same : get_or names place [] ≡ name = one_name (get_or names place []) name number kept.1 is in
    let here = place_at names place [] table.distinct kept.0 in
    subst (λ x. (has_name names x ≡ true) × (place ≡ place_of names x)) same (here.0, sym here.1)

-- what is kept stays right

pub nothing_kept : (names : List (List ℕ)) → AreShortPlaces names []
nothing_kept names number place at = absurd (omega (arith, at))

pub one_name_more : (names : List (List ℕ)) (name places : List ℕ) → AreShortPlaces names places → AreShortPlaces (names ++ name ∷ []) places
one_name_more names name places short number place at =
    let kept = short number place at in (
      omega (arith, kept.0, length-append names (name ∷ [])),
      subst (λ x. IsShort x number) (sym (get_or_append_left names (name ∷ []) [] place kept.0)) kept.1,
    )

pub one_place_more : (names : List (List ℕ)) (old new : List ℕ) (number place : ℕ) → AreShortPlaces names old → place < length names
    → IsShort (get_or names place []) number → ((n p : ℕ) → IsKeptAt new n p → IsKeptAt old n p ⊎ ((n ≡ number) × (p ≡ place))) → AreShortPlaces names new
one_place_more names old new number place short within is more n p at =
    elim (more n p at) as (λ _. (p < length names) × IsShort (get_or names p []) n) [
      | inl before ↦ short n p before
      | inr (a, b) ↦ (
        subst (λ q. q < length names) (sym b) within,
        subst (λ q. IsShort (get_or names q []) n) (sym b) (subst (λ m. IsShort (get_or names place []) m) (sym a) is),
      )
    ]

-- what is kept for a number, if anything is, is the place of its name
pub short_place : (places name : List ℕ) (number : ℕ) (found : Option ℕ) → IsShort name number → IfSome found (IsKeptAt places number)
    → IfSome found (λ place. (names : List (List ℕ)) → IsTable names → AreShortPlaces names places → (has_name names name ≡ true) × (place ≡ place_of names name))
short_place places name number None is at = tt
short_place places name number (Some place) is at = λ names table short. short_found names places name number place table short is at

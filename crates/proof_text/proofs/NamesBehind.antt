-- Names in two tables of which the second goes on where the first ends: those of a problem, and those that its proof adds.
use Rattle.std.proofs.Common.{◌≡◌, ℕ, ◌+◌, ◌-◌, ◌<◌, ◌≤◌, Bool, true, false, not, cond, ◌||◌, List, [], ◌∷◌, ◌++◌, length, take, if◌then◌else◌, refl, sym, ap, subst, ◌∙◌, arith, length-append, append_assoc}
use Rattle.std.specs.List.{IsDistinct, AllByRecursion}
use Rattle.std.specs.Cmp.Lexicographic.{same_text}
use Rattle.std.proofs.lemmas.Bool.{true≢false}
use Rattle.std.specs.Prelude.{nat_lt}
use Rattle.std.proofs.lemmas.Bool.Decides.{nat_tests}
use Rattle.std.proofs.lemmas.List.{take-append-le}
use Rattle.std.proofs.Math.Seq.{take-append-add}
use Rattle.pb_text.specs.Name.{is_name}
use Rattle.linear.specs.Largest.{most_names}
use Rattle.linear.specs.Table.{same_name, has_name, place_of, with_name, IsFullFor, IsTable}
use Rattle.linear.proofs.NumbersOfNames.{with_name-known, with_name-new, number_of-added, place_of-append, has_name-append, place_of-less}
use Rattle.linear.proofs.Tables.{IsTable-with_name, IsTable-take}
use Rattle.proof_text.specs.NamesMet.{NamesMet, met, but_last}

has_name-both : (names more : List (List ℕ)) (name : List ℕ) → has_name (names ++ more) name ≡ (has_name names name || has_name more name)
has_name-both [] more name = refl
has_name-both (n ∷ ns) more name = by (same_name name n) (has_name-both ns more name)
  where
    by : (b : Bool) → has_name (ns ++ more) name ≡ (has_name ns name || has_name more name) → (b || has_name (ns ++ more) name) ≡ ((b || has_name ns name) || has_name more name)
    by true e = refl
    by false e = e

-- a name that the first table has not

has_name-behind : (names more : List (List ℕ)) (name : List ℕ) → has_name names name ≡ false → has_name (names ++ more) name ≡ has_name more name
has_name-behind names more name h = has_name-both names more name ∙ ap (λ b. b || has_name more name) h

place_of-behind : (names more : List (List ℕ)) (name : List ℕ) → has_name names name ≡ false → place_of (names ++ more) name ≡ length names + place_of more name
place_of-behind [] more name h = omega arith
place_of-behind (n ∷ ns) more name h = by (same_name name n) h (place_of-behind ns more name)
  where
    by : (b : Bool) → (b || has_name ns name) ≡ false → (has_name ns name ≡ false → place_of (ns ++ more) name ≡ length ns + place_of more name)
        → cond (not b) (1 + place_of (ns ++ more) name) 0 ≡ length (n ∷ ns) + place_of more name
    by true e rest = absurd (true≢false e)
    by false e rest = let k : place_of (ns ++ more) name ≡ length ns + place_of more name = rest e in omega (arith, k)

with_name-behind : (names more : List (List ℕ)) (name : List ℕ) → has_name names name ≡ false → with_name (names ++ more) name ≡ names ++ with_name more name
with_name-behind names more name h = by (has_name more name) (has_name-behind names more name h)
  where
    by : (b : Bool) → has_name (names ++ more) name ≡ b → with_name (names ++ more) name ≡ names ++ (if b then more else more ++ name ∷ [])
    by true e = ap (λ b. if b then names ++ more else (names ++ more) ++ name ∷ []) e
    by false e = ap (λ b. if b then names ++ more else (names ++ more) ++ name ∷ []) e ∙ append_assoc names more (name ∷ [])

-- what an addition to the second table does to both

pub added_behind : (names more new : List (List ℕ)) (name : List ℕ) → has_name names name ≡ false → new ≡ with_name more name → names ++ new ≡ with_name (names ++ more) name
added_behind names more new name h is = ap (λ ns. names ++ ns) is ∙ sym (with_name-behind names more name h)

pub number_behind : (names more : List (List ℕ)) (name : List ℕ) (m n : ℕ) → has_name names name ≡ false → m ≡ place_of more name → n ≡ length names + m → n ≡ place_of (names ++ more) name
number_behind names more name m n h e is = let k = place_of-behind names more name h in omega (arith, e, is, k)

pub full_behind : (names more : List (List ℕ)) (name : List ℕ) (most : ℕ) → has_name names name ≡ false → length names ≤ most → IsFullFor more (most - length names) name → IsFullFor (names ++ more) most name
full_behind names more name most h few f = record {
  unknown = has_name-behind names more name h ∙ f.unknown;
  full = let full = f.full in omega (arith, full, few, length-append names more);
}

pub table_behind : (names more new : List (List ℕ)) (name : List ℕ) → IsTable (names ++ more) → is_name name ≡ true → has_name names name ≡ false → new ≡ with_name more name
    → length names + length new ≤ most_names → IsTable (names ++ new)
table_behind names more new name t spelled h is few = by (has_name more name) refl
  where
    by : (b : Bool) → has_name more name ≡ b → IsTable (names ++ new)
    by true e = subst (λ ns. IsTable (names ++ ns)) (sym (is ∙ with_name-known more name e)) t
    by false e =
        let longer : length new ≡ length more + 1 = ap length is ∙ with_name-new more name e in
        let room : length (names ++ more) < most_names = omega (arith, longer, few, length-append names more) in
        subst IsTable (with_name-behind names more name h ∙ ap (λ ns. names ++ ns) (sym is)) (IsTable-with_name (names ++ more) name t spelled room)

-- a name that the first table has

pub known_before : (names more : List (List ℕ)) (name : List ℕ) → has_name names name ≡ true → names ++ more ≡ with_name (names ++ more) name
known_before names more name h = sym (with_name-known (names ++ more) name (has_name-append names more name h))

pub number_before : (names more : List (List ℕ)) (name : List ℕ) (n : ℕ) → has_name names name ≡ true → n ≡ place_of names name
    → (has_name (names ++ more) name ≡ true) × (n ≡ place_of (names ++ more) name)
number_before names more name n h e = (has_name-append names more name h, e ∙ sym (place_of-append names more name h))

-- a name that the second table has does not stand in the first

or_true : (b : Bool) → (b || true) ≡ true
or_true true = refl
or_true false = refl

not_before : (names more : List (List ℕ)) (name : List ℕ) → IsDistinct same_name (names ++ more) → has_name more name ≡ true → has_name names name ≡ false
unfolding IsDistinct
not_before [] more name d h = refl
not_before (n ∷ ns) more name d h = by (same_name name n) refl (not_before ns more name d.1 h)
  where
    none : (ms : List (List ℕ)) → AllByRecursion (λ y. same_name n y ≡ false) ms → has_name ms n ≡ false
    none [] a = refl
    none (m ∷ ms) a = ap (λ b. b || has_name ms n) a.0 ∙ none ms a.1

    by : (b : Bool) → same_name name n ≡ b → has_name ns name ≡ false → (b || has_name ns name) ≡ false
    by false e rest = rest
    by true e rest =
        let same : name ≡ n = same_text name n (sym e) in
        let there : has_name (ns ++ more) n ≡ true = has_name-both ns more n ∙ ap (λ b. has_name ns n || b) (subst (λ m. has_name more m ≡ true) same h) ∙ or_true (has_name ns n) in
        absurd (true≢false (sym there ∙ none (ns ++ more) d.0))

-- the number of a name of the second table, among those of both
pub record IsBehind (names more : List (List ℕ)) (name : List ℕ) (m : ℕ) : Type 0 where
  pub room : length names + m < most_names
  pub known : has_name (names ++ more) name ≡ true
  pub number : length names + m ≡ place_of (names ++ more) name

pub found_behind : (names more : List (List ℕ)) (name : List ℕ) (m : ℕ) → IsTable (names ++ more) → has_name more name ≡ true → m ≡ place_of more name → IsBehind names more name m
found_behind names more name m t h e =
    let before = not_before names more name t.distinct h in
    let less : place_of more name < length more = place_of-less more name h in
    let few : length (names ++ more) ≤ most_names = t.numbered in
    record {
      room = omega (arith, e, less, few, length-append names more);
      known = has_name-behind names more name before ∙ h;
      number = let k = place_of-behind names more name before in omega (arith, e, k);
    }

-- names taken away from the end of the second table
pub table_without : (n : ℕ) (names more new : List (List ℕ)) → IsTable (names ++ more) → new ≡ take n more → IsTable (names ++ new)
table_without n names more new t is =
    subst IsTable (take-append-add names more n ∙ ap (λ ns. names ++ ns) (sym is)) (IsTable-take (length names + n) (names ++ more) t)

-- the number of a name that was found or added in the second table
pub number_within : (names more new : List (List ℕ)) (name : List ℕ) (m : ℕ) → IsTable (names ++ more) → new ≡ with_name more name → length names + length new ≤ most_names → m ≡ place_of more name
    → length names + m < most_names
number_within names more new name m t is few e =
    let added = number_of-added more name in
    let less : place_of (with_name more name) name < length (with_name more name) = place_of-less (with_name more name) name added.0 in
    let same : length new ≡ length (with_name more name) = ap length is in
    omega (arith, few, less, same, added.1, e)

-- names of the second table that were there before stay
pub those_before_stay : (names more new : List (List ℕ)) (name : List ℕ) (n : ℕ) → n ≤ length more → names ++ new ≡ with_name (names ++ more) name → names ++ take n new ≡ names ++ take n more
those_before_stay names more new name n h is =
    sym (take-append-add names new n) ∙ ap (take (length names + n)) is ∙ by (has_name (names ++ more) name) ∙ take-append-add names more n
  where
    by : (b : Bool) → take (length names + n) (if b then names ++ more else (names ++ more) ++ name ∷ []) ≡ take (length names + n) (names ++ more)
    by true = refl
    by false = take-append-le (length names + n) (names ++ more) (name ∷ []) (omega (arith, h, length-append names more))

-- what is kept of a table, whether or not its last name counts
abbrev kept : List (List ℕ) → List (List ℕ) → Bool → NamesMet
kept before names full = record { before = before; names = if full then but_last names else names; full = full }

-- a name that finds a number is met
pub met_found : (before old names new : List (List ℕ)) (full : Bool) (name : List ℕ) → before ≡ old → new ≡ with_name names name → (full ≡ true → most_names ≤ length names) → length new ≤ most_names
    → kept before new full ≡ met (kept old names full) name
met_found before old names new full name same is many few = by full (has_name names name) refl is many
  where
    by : (f h : Bool) → has_name names name ≡ h → new ≡ (if h then names else names ++ name ∷ []) → (f ≡ true → most_names ≤ length names) → kept before new f ≡ met (kept old names f) name
    by true true d e m = rw (same, e) refl
    by true false d e m =
        let full : most_names ≤ length names = m refl in
        let long : length new ≡ length (names ++ name ∷ []) = ap length e in
        absurd (omega (arith, full, few, long, length-append names (name ∷ [])))
    by false true d e m = rw (same, e, d) refl
    by false false d e m =
        let long : length new ≡ length (names ++ name ∷ []) = ap length e in
        let less : length names < most_names = omega (arith, few, long, length-append names (name ∷ [])) in
        let room : nat_lt (length names) most_names ≡ true = grind (arith, nat_tests) in
        rw (same, e, d, room) refl

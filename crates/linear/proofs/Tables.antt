-- Tables of names: what the keys of the index set say of the names, and that a table stays one.
use Rattle.std.proofs.Common.{◌≡◌, ℕ, ◌+◌, ◌<◌, Bool, true, false, not, cond, ◌||◌, List, [], ◌∷◌, ◌++◌, map, length, take, if◌then◌else◌, ltb, get_or, zero, suc, Some, None, is_some, refl, sym, ap, subst, ◌∙◌, arith}
use Rattle.std.specs.List.{list_any, position_or_len, position, IsDistinct, AllByRecursion}
use Rattle.std.specs.Cmp.Lexicographic.{nat_list_eq_equiv}
use Rattle.std.proofs.lemmas.List.{length-append, length-take, map-append, take_more, get_or-map, length-map}
use Rattle.std.proofs.lemmas.List.Elements.{All-push, All-take}
use Rattle.std.proofs.lemmas.Bool.{true≢false}
use Rattle.indexmap.proofs.MapLemmas.{distinct-take}
use Rattle.pb_text.specs.Name.{is_name}
use Rattle.linear.specs.Table.{same_name, has_name, place_of, with_name, IsTable}
use Rattle.linear.specs.Largest.{most_names}

module _ {X : Type 0} (f : X → List ℕ) where
  pub list_any-map : (p : List ℕ → Bool) (xs : List X) → list_any p (map f xs) ≡ list_any (λ x. p (f x)) xs
  list_any-map p [] = refl
  list_any-map p (x ∷ xs) = ap (λ b. p (f x) || b) (list_any-map p xs)

  pub position_or_len-map : (p : List ℕ → Bool) (xs : List X) → position_or_len p (map f xs) ≡ position_or_len (λ x. p (f x)) xs
  position_or_len-map p [] = refl
  position_or_len-map p (x ∷ xs) = ap (λ n. cond (not (p (f x))) (1 + n) 0) (position_or_len-map p xs)

  -- what a look-up that found place i says of the names
  pub found_at : (xs : List X) (name : List ℕ) (i : ℕ) → Some i ≡ position (λ x. same_name name (f x)) xs → is_some (Some i) ≡ list_any (λ x. same_name name (f x)) xs
      → (has_name (map f xs) name ≡ true) × (i ≡ place_of (map f xs) name)
  found_at xs name i at found =
      (list_any-map (same_name name) xs ∙ sym found, from_position (λ x. same_name name (f x)) xs i at ∙ sym (position_or_len-map (same_name name) xs))
    where
      from_position : (p : X → Bool) (ys : List X) (j : ℕ) → Some j ≡ position p ys → j ≡ position_or_len p ys
      from_position p ys j e = by (ltb (position_or_len p ys) (length ys)) e
        where
          by : (b : Bool) → Some j ≡ cond b (Some (position_or_len p ys)) None → j ≡ position_or_len p ys
          by true e = cc
          by false e = cc

  -- what a look-up that found nothing says of the names
  pub not_found : (xs : List X) (name : List ℕ) → is_some {T = ℕ} None ≡ list_any (λ x. same_name name (f x)) xs → has_name (map f xs) name ≡ false
  not_found xs name found = list_any-map (same_name name) xs ∙ sym found

  -- the names after an insertion
  pub map-insert_key : (xs : List X) (x : X) → map f (if list_any (λ y. same_name (f x) (f y)) xs then xs else xs ++ x ∷ []) ≡ with_name (map f xs) (f x)
  map-insert_key xs x = by (list_any (λ y. same_name (f x) (f y)) xs) (sym (list_any-map (same_name (f x)) xs))
    where
      by : (b : Bool) → b ≡ has_name (map f xs) (f x) → map f (if b then xs else xs ++ x ∷ []) ≡ with_name (map f xs) (f x)
      by true e = ap (λ b. if b then map f xs else map f xs ++ f x ∷ []) e
      by false e = map-append f xs (x ∷ []) ∙ ap (λ b. if b then map f xs else map f xs ++ f x ∷ []) e

-- the number of a name that is not there yet
pub place_of-new : (names : List (List ℕ)) (name : List ℕ) → has_name names name ≡ false → place_of names name ≡ length names
place_of-new [] name h = refl
place_of-new (n ∷ ns) name h = by (same_name name n) h (place_of-new ns name)
  where
    by : (b : Bool) → (b || has_name ns name) ≡ false → (has_name ns name ≡ false → place_of ns name ≡ length ns) → cond (not b) (1 + place_of ns name) 0 ≡ length (n ∷ ns)
    by true e rest = absurd (true≢false e)
    by false e rest = ap (λ k. 1 + k) (rest e) ∙ omega arith

pub IsTable-empty : IsTable []
unfolding IsDistinct
IsTable-empty = record { spelled = λ k d h. absurd (omega arith); distinct = tt; numbered = omega arith }

-- a new name beside distinct ones
distinct-push : (names : List (List ℕ)) (name : List ℕ) → has_name names name ≡ false → IsDistinct same_name names → IsDistinct same_name (names ++ name ∷ [])
unfolding IsDistinct
distinct-push [] name h d = (tt, tt)
distinct-push (n ∷ ns) name h d = by (same_name name n) refl (distinct-push ns name)
  where
    pushed : (ms : List (List ℕ)) → same_name n name ≡ false → AllByRecursion (λ y. same_name n y ≡ false) ms → AllByRecursion (λ y. same_name n y ≡ false) (ms ++ name ∷ [])
    pushed [] e a = (e, tt)
    pushed (m ∷ ms) e a = (a.0, pushed ms e a.1)

    by : (b : Bool) → same_name name n ≡ b → (has_name ns name ≡ false → IsDistinct same_name ns → IsDistinct same_name (ns ++ name ∷ [])) → IsDistinct same_name ((n ∷ ns) ++ name ∷ [])
    by true e rest = absurd (true≢false (sym (ap (λ b. b || has_name ns name) e) ∙ h))
    by false e rest = (pushed ns (nat_list_eq_equiv.symm n name ∙ e) d.0, rest (sym (ap (λ b. b || has_name ns name) e) ∙ h) d.1)

pub IsTable-with_name : (names : List (List ℕ)) (name : List ℕ) → IsTable names → is_name name ≡ true → length names < most_names → IsTable (with_name names name)
IsTable-with_name names name t spelled room = by (has_name names name) refl
  where
    by : (b : Bool) → has_name names name ≡ b → IsTable (if b then names else names ++ name ∷ [])
    by true e = t
    by false e = record {
      spelled = All-push (λ n. is_name n ≡ true) names name t.spelled spelled;
      distinct = distinct-push names name e t.distinct;
      numbered = omega (arith, length-append names (name ∷ []));
    }

pub IsTable-take : (n : ℕ) (names : List (List ℕ)) → IsTable names → IsTable (take n names)
IsTable-take n names t = record {
  spelled = All-take (λ name. is_name name ≡ true) n names t.spelled;
  distinct = distinct-take nat_list_eq_equiv n names t.distinct;
  numbered = let short = t.numbered in omega (arith, length-take n names);
}

-- a name of a table is not among those before it
pub fresh_name : (names : List (List ℕ)) (i : ℕ) (d : List ℕ) → IsDistinct same_name names → i < length names → has_name (take i names) (get_or names i d) ≡ false
unfolding IsDistinct
fresh_name [] i d distinct h = absurd (omega (arith, h))
fresh_name (n ∷ ns) zero d distinct h = refl
fresh_name (n ∷ ns) (suc i) d distinct h =
    let in_rest : i < length ns = omega (arith, h) in
    let apart : (ms : List (List ℕ)) (j : ℕ) → AllByRecursion (λ y. same_name n y ≡ false) ms → j < length ms → same_name n (get_or ms j d) ≡ false = AllByRecursion-get_or n d in
    ap (λ b. b || has_name (take i ns) (get_or ns i d)) (nat_list_eq_equiv.symm (get_or ns i d) n ∙ apart ns i distinct.0 in_rest) ∙ fresh_name ns i d distinct.1 in_rest
  where
    AllByRecursion-get_or : (n : List ℕ) (d : List ℕ) (ms : List (List ℕ)) (j : ℕ) → AllByRecursion (λ y. same_name n y ≡ false) ms → j < length ms → same_name n (get_or ms j d) ≡ false
    AllByRecursion-get_or n d [] j a h = absurd (omega (arith, h))
    AllByRecursion-get_or n d (m ∷ ms) zero a h = a.0
    AllByRecursion-get_or n d (m ∷ ms) (suc j) a h = AllByRecursion-get_or n d ms j a.1 (omega (arith, h))

-- the table of the names up to place i, with the name there, is that up to the next place
pub with_name-take : (names : List (List ℕ)) (i : ℕ) (d : List ℕ) → IsDistinct same_name names → i < length names → with_name (take i names) (get_or names i d) ≡ take (i + 1) names
with_name-take names i d distinct h =
    ap (λ b. if b then take i names else take i names ++ get_or names i d ∷ []) (fresh_name names i d distinct h) ∙ sym (take_more names i d h)

-- the name that was read as an element of the keys, in the table that shows the keys
pub record IsNameAt (names : List (List ℕ)) (i : ℕ) (name : List ℕ) : Type 0 where
  pub within : i < length names
  pub name_is : name ≡ get_or names i name

pub name_at : {X : Type 0} (f : X → List ℕ) (keys items : List X) (names : List (List ℕ)) (x : X) (name : List ℕ) (i : ℕ)
    → map f keys ≡ names → items ≡ keys → i < length items → x ≡ get_or items i x → name ≡ f x → IsNameAt names i name
name_at f keys items names x name i seen same h e is =
    let within_keys : i < length keys = subst (λ xs. i < length xs) same h in
    let at : x ≡ get_or keys i x = e ∙ ap (λ xs. get_or xs i x) same in
    let long : length names ≡ length keys = sym (ap length seen) ∙ length-map keys f in
    record {
      within = omega arith;
      name_is = is ∙ ap f at ∙ sym (get_or-map f keys i x name within_keys) ∙ ap (λ ns. get_or ns i name) seen;
    }

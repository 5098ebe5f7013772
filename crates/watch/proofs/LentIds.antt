-- Which ids are lent for a literal: those of the live constraints that have it, each once.
use Rattle.std.proofs.Common.{◌≡◌, ◌↔◌, ℕ, zero, suc, ◌+◌, ◌<◌, ◌==◌, ◌⊎◌, inl, inr, Bool, true, false, cond, is_some, Contains, drop, Option, None, Some, List, [], ◌∷◌, ◌++◌, length, get_or, map, refl, ap, sym, subst, ◌∙◌, arith}
use Rattle.std.proofs.lemmas.Bool.Decides.{nat_tests}
use Rattle.std.proofs.lemmas.List.{drop_more}
use Rattle.std.proofs.lemmas.List.Elements.{Contains-append_cases, Contains-append_left, Contains-append_right, Contains-push_cases}
use Rattle.std.specs.FinMap as fin
use Rattle.linear.specs.declared.term.Lit.{Lit}
use Rattle.normal_form.specs.Normal.{NormalConstraint}
use Rattle.propagate.specs.Content.{HasLiteral}
use Rattle.propagate.specs.Literals.{coefficient_of}
use Rattle.occurrences.specs.declared.occurrence.Occurrence.{Occurrence}
use Rattle.ledger.specs.Ledgers.{AreParted, constraint_at}
use Rattle.ledger.specs.Entered.{AreEntriesOf}
use Rattle.watch.specs.Lent.{ids_at, live_places}
use Rattle.places.specs.Places.{place_of}
use Rattle.watch.specs.Named.{AreNamed, content_at}
use Rattle.occurrences.specs.Occurrences.{occurrences_of}
use Rattle.watch.proofs.NamedPlaces.{below, got, got_none}

abbrev Slots : Type 0
Slots = List (Option NormalConstraint)

abbrev Places : Type 0
Places = List (ℕ × ℕ)

pub first_or_later : (L : List ℕ) (p k : ℕ) → Contains (p ∷ L) k → (p ≡ k) ⊎ Contains L k
first_or_later L p k c = elim (Contains-append_cases (p ∷ []) L k c) [
  | inl a ↦ elim (Contains-push_cases [] p k a) [
    | inl none ↦ absurd (omega (arith, none.1))
    | inr e ↦ inl e
  ]
  | inr r ↦ inr r
]

pub later : (L : List ℕ) (p k : ℕ) → Contains L k → Contains (p ∷ L) k
later L p k c = (suc c.0, omega (arith, c.1), c.2)

contains_mapped : (f : ℕ → ℕ) (L : List ℕ) (x : ℕ) → Contains (map f L) x → (k : ℕ) × Contains L k × (f k ≡ x)
contains_mapped f [] x c = absurd (omega (arith, c.1))
contains_mapped f (k ∷ ks) x c = elim (first_or_later (map f ks) (f k) x c) [
  | inl e ↦ (k, (0, omega arith, refl), e)
  | inr r ↦ let it = contains_mapped f ks x r in (it.0, later ks k it.0 it.1, it.2)
]

mapped_contains : (f : ℕ → ℕ) (L : List ℕ) (k : ℕ) → Contains L k → Contains (map f L) (f k)
mapped_contains f [] k c = absurd (omega (arith, c.1))
mapped_contains f (p ∷ ps) k c = elim (first_or_later ps p k c) [
  | inl e ↦ (0, omega arith, ap f e)
  | inr r ↦ later (map f ps) (f p) (f k) (mapped_contains f ps k r)
]

some_of : (o : Option NormalConstraint) → is_some o ≡ true → (n : NormalConstraint) × (o ≡ Some n)
some_of None h = absurd (cc)
some_of (Some n) h = (n, refl)

-- the places of a literal's entries, one constraint after another
abbrev with_place : Bool → Bool → ℕ → List ℕ → List ℕ
with_place b d p L = cond b L (cond d (p ∷ L) L)

entry_live : (slots : Slots) (p c : ℕ) (rest : List Occurrence) (b : Bool) → live_places slots (cond b [] (record { place = p; coef = c } ∷ []) ++ rest) ≡ with_place b (is_some (get_or slots p None)) p (live_places slots rest)
entry_live slots p c rest true = refl
entry_live slots p c rest false = refl

place_cases : (b d : Bool) (p k : ℕ) (L : List ℕ) → Contains (with_place b d p L) k → ((b ≡ false) × (d ≡ true) × (p ≡ k)) ⊎ Contains L k
place_cases true d p k L c = inr c
place_cases false false p k L c = inr c
place_cases false true p k L c = elim (first_or_later L p k c) [
  | inl e ↦ inl (refl, refl, e)
  | inr r ↦ inr r
]

place_here : (b d : Bool) (p k : ℕ) (L : List ℕ) → b ≡ false → d ≡ true → p ≡ k → Contains (with_place b d p L) k
place_here true d p k L e f g = absurd (cc)
place_here false false p k L e f g = absurd (cc)
place_here false true p k L e f g = (0, omega arith, g)

place_later : (b d : Bool) (p k : ℕ) (L : List ℕ) → Contains L k → Contains (with_place b d p L) k
place_later true d p k L c = c
place_later false false p k L c = c
place_later false true p k L c = later L p k c

abbrev IsLiveAt : Slots → Lit → List NormalConstraint → ℕ → ℕ → Type 0
IsLiveAt slots l ns k j = (j < length ns) × (is_some (get_or slots k None) ≡ true) × (0 < coefficient_of (constraint_at ns j) l)

live_there : (slots : Slots) (l : Lit) (p : ℕ) (ns : List NormalConstraint) (k : ℕ) → Contains (live_places slots (occurrences_of l p ns)) k → (j : ℕ) × (k ≡ p + j) × IsLiveAt slots l ns k j
live_there slots l p [] k c = absurd (omega (arith, c.1))
live_there slots l p (n ∷ ns) k c =
    let coef = coefficient_of n l in
    let L : List ℕ = live_places slots (occurrences_of l (p + 1) ns) in
    let there = subst (λ (ks : List ℕ). Contains ks k) (entry_live slots p coef (occurrences_of l (p + 1) ns) (coef == 0)) c in
    elim (place_cases (coef == 0) (is_some (get_or slots p None)) p k L there) [
      | inl h ↦
          let some : 0 < coef = positive coef h.0 in
          (0, omega (arith, h.2), (omega arith, ap (λ (i : ℕ). is_some (get_or slots i None)) (sym h.2) ∙ h.1, some))
      | inr r ↦
          let it = live_there slots l (p + 1) ns k r in
          (suc it.0, omega (arith, it.1), (omega (arith, it.2.0), it.2.1, it.2.2))
    ]
  where
    positive : (c : ℕ) → (c == 0) ≡ false → 0 < c
    positive c h = grind (arith, nat_tests)

there_live : (slots : Slots) (l : Lit) (p : ℕ) (ns : List NormalConstraint) (k j : ℕ) → k ≡ p + j → IsLiveAt slots l ns k j → Contains (live_places slots (occurrences_of l p ns)) k
there_live slots l p [] k j e h = absurd (omega (arith, h.0))
there_live slots l p (n ∷ ns) k zero e h =
    let coef = coefficient_of n l in
    let here : p ≡ k = omega (arith, e) in
    subst (λ (ks : List ℕ). Contains ks k) (sym (entry_live slots p coef (occurrences_of l (p + 1) ns) (coef == 0)))
    (place_here (coef == 0) (is_some (get_or slots p None)) p k (live_places slots (occurrences_of l (p + 1) ns)) (not_zero coef h.2) (ap (λ (i : ℕ). is_some (get_or slots i None)) here ∙ h.1) here)
  where
    not_zero : (c : ℕ) → 0 < c → (c == 0) ≡ false
    not_zero c h = grind (arith, nat_tests)
there_live slots l p (n ∷ ns) k (suc j) e h =
    let coef = coefficient_of n l in
    subst (λ (ks : List ℕ). Contains ks k) (sym (entry_live slots p coef (occurrences_of l (p + 1) ns) (coef == 0)))
    (place_later (coef == 0) (is_some (get_or slots p None)) p k (live_places slots (occurrences_of l (p + 1) ns))
    (there_live slots l (p + 1) ns k j (omega (arith, e)) (omega (arith, h.0), h.1, h.2)))

some_same : (n m : NormalConstraint) (o : Option NormalConstraint) → o ≡ Some n → o ≡ Some m → n ≡ m
some_same n m o e f = cc

none_is_not_some : {X : Type 0} (x : X) (o : Option X) → o ≡ None → o ≡ Some x → ⊥
none_is_not_some x o e f = cc

-- the places of two lists of entries
live_cases : (b : Bool) (p : ℕ) (xs ys : List ℕ) → cond b (p ∷ (xs ++ ys)) (xs ++ ys) ≡ cond b (p ∷ xs) xs ++ ys
live_cases true p xs ys = refl
live_cases false p xs ys = refl

live_append : (slots : Slots) (xs ys : List Occurrence) → live_places slots (xs ++ ys) ≡ live_places slots xs ++ live_places slots ys
live_append slots [] ys = refl
live_append slots (o ∷ os) ys =
    ap (λ (ks : List ℕ). cond (is_some (get_or slots o.place None)) (o.place ∷ ks) ks) (live_append slots os ys) ∙ live_cases (is_some (get_or slots o.place None)) o.place (live_places slots os) (live_places slots ys)

-- what is counted or watched at a live place is the constraint that stands there
abbrev Counts : List NormalConstraint → Lit → ℕ → Type 0
Counts ns l k = 0 < coefficient_of (constraint_at ns k) l

of_slot : (slots : Slots) (ns ws : List NormalConstraint) (pairs : _) (l : Lit) (k : ℕ) (n : NormalConstraint) (o : _) → AreParted slots ns ws pairs → get_or slots k None ≡ Some n → get_or pairs k None ≡ o → Counts ns l k ⊎ Counts ws l k → 0 < coefficient_of n l
of_slot slots ns ws pairs l k n None x e f (inl some) = subst (λ (c : NormalConstraint). 0 < coefficient_of c l) (x.counts k n e f).0 some
of_slot slots ns ws pairs l k n None x e f (inr some) = absurd (omega (arith, subst (λ (c : NormalConstraint). 0 < coefficient_of c l) (x.counts k n e f).1 some))
of_slot slots ns ws pairs l k n (Some p) x e f (inl some) = absurd (omega (arith, subst (λ (c : NormalConstraint). 0 < coefficient_of c l) (x.watches k n p e f).0 some))
of_slot slots ns ws pairs l k n (Some p) x e f (inr some) = subst (λ (c : NormalConstraint). 0 < coefficient_of c l) (x.watches k n p e f).1 some

in_one : (slots : Slots) (ns ws : List NormalConstraint) (pairs : _) (l : Lit) (k : ℕ) (n : NormalConstraint) (o : _) → AreParted slots ns ws pairs → get_or slots k None ≡ Some n → get_or pairs k None ≡ o → 0 < coefficient_of n l → Counts ns l k ⊎ Counts ws l k
in_one slots ns ws pairs l k n None x e f some = inl (subst (λ (c : NormalConstraint). 0 < coefficient_of c l) (sym (x.counts k n e f).0) some)
in_one slots ns ws pairs l k n (Some p) x e f some = inr (subst (λ (c : NormalConstraint). 0 < coefficient_of c l) (sym (x.watches k n p e f).1) some)

-- a place that is live in either part
abbrev IsLive : Slots → Lit → List NormalConstraint → ℕ → Type 0
IsLive slots l ns k = (is_some (get_or slots k None) ≡ true) × Counts ns l k

live_in : (slots : Slots) (l : Lit) (ns : List NormalConstraint) (k : ℕ) → Contains (live_places slots (occurrences_of l 0 ns)) k → IsLive slots l ns k
live_in slots l ns k c =
    let it = live_there slots l 0 ns k c in
    let here : it.0 ≡ k = omega (arith, it.1) in
    (it.2.1, subst (λ (j : ℕ). Counts ns l j) here it.2.2)

abbrev places_in : Slots → Lit → List NormalConstraint → List ℕ
places_in slots l ns = live_places slots (occurrences_of l 0 ns)

both_places : (slots : Slots) (l : Lit) (ns ws : List NormalConstraint) (os : List Occurrence) → os ≡ occurrences_of l 0 ns ++ occurrences_of l 0 ws → live_places slots os ≡ places_in slots l ns ++ places_in slots l ws
both_places slots l ns ws os e = ap (live_places slots) e ∙ live_append slots (occurrences_of l 0 ns) (occurrences_of l 0 ws)

live_cases_of : (slots : Slots) (l : Lit) (ns ws : List NormalConstraint) (os : List Occurrence) (k : ℕ) → os ≡ occurrences_of l 0 ns ++ occurrences_of l 0 ws → Contains (live_places slots os) k → IsLive slots l ns k ⊎ IsLive slots l ws k
live_cases_of slots l ns ws os k e c = elim (Contains-append_cases (places_in slots l ns) (places_in slots l ws) k (subst (λ (ks : List ℕ). Contains ks k) (both_places slots l ns ws os e) c)) [
  | inl left ↦ inl (live_in slots l ns k left)
  | inr right ↦ inr (live_in slots l ws k right)
]

live_now : (slots : Slots) (l : Lit) (ns ws : List NormalConstraint) (k : ℕ) → IsLive slots l ns k ⊎ IsLive slots l ws k → (is_some (get_or slots k None) ≡ true) × (Counts ns l k ⊎ Counts ws l k)
live_now slots l ns ws k (inl a) = (a.0, inl a.1)
live_now slots l ns ws k (inr b) = (b.0, inr b.1)

pub lent_has : (slots : Slots) (es : Places) (ids : List ℕ) (l : Lit) (os : List Occurrence) → AreNamed es ids slots → AreEntriesOf slots l os → (id : ℕ) → Contains (ids_at ids (live_places slots os)) id → HasLiteral (content_at slots es) l id
lent_has slots es ids l os a x id c =
    let m = contains_mapped (λ k. get_or ids k 0) (live_places slots os) id c in
    let k = m.0 in
    let live = live_now slots l x.0 x.1 k (live_cases_of slots l x.0 x.1 os k x.4 m.1) in
    let n = some_of (get_or slots k None) live.0 in (
      n.0,
      ap (fin.get (content_at slots es)) (sym m.2) ∙ sym (got slots es ids (get_or ids k 0) k a (a.named k n.0 n.1)) ∙ n.1,
      of_slot slots x.0 x.1 x.2 l k n.0 (get_or x.2 k None) x.3 n.1 refl live.1,
    )

-- a live place that is counted or watched is in the list
live_listed : (slots : Slots) (l : Lit) (ns ws : List NormalConstraint) (os : List Occurrence) (k : ℕ) → os ≡ occurrences_of l 0 ns ++ occurrences_of l 0 ws → is_some (get_or slots k None) ≡ true → k < length ns → k < length ws → Counts ns l k ⊎ Counts ws l k → Contains (live_places slots os) k
live_listed slots l ns ws os k e live low low_w (inl some) =
    subst (λ (ks : List ℕ). Contains ks k) (sym (both_places slots l ns ws os e)) (Contains-append_left (places_in slots l ns) (places_in slots l ws) k (there_live slots l 0 ns k k (omega arith) (low, live, some)))
live_listed slots l ns ws os k e live low low_w (inr some) =
    subst (λ (ks : List ℕ). Contains ks k) (sym (both_places slots l ns ws os e)) (Contains-append_right (places_in slots l ns) (places_in slots l ws) k (there_live slots l 0 ws k k (omega arith) (low_w, live, some)))

lent_at : (slots : Slots) (es : Places) (ids : List ℕ) (l : Lit) (os : List Occurrence) → AreNamed es ids slots → AreEntriesOf slots l os → (id : ℕ) → HasLiteral (content_at slots es) l id → (o : Option ℕ) → place_of es id ≡ o → Contains (ids_at ids (live_places slots os)) id
lent_at slots es ids l os a x id h None e = absurd (none_is_not_some h.0 (fin.get (content_at slots es) id) (got_none slots es id e) h.1)
lent_at slots es ids l os a x id h (Some k) e =
    let there : get_or slots k None ≡ Some h.0 = got slots es ids id k a e ∙ h.1 in
    let low : k < length slots = below slots k h.0 there in
    let some = in_one slots x.0 x.1 x.2 l k h.0 (get_or x.2 k None) x.3 there refl h.2 in
    let in_list = live_listed slots l x.0 x.1 os k x.4 (ap (λ (o : Option NormalConstraint). is_some o) there) (omega (arith, low, x.3.count)) (omega (arith, low, x.3.watched_count)) some in
    subst (λ (i : ℕ). Contains (ids_at ids (live_places slots os)) i) (a.live id k e).2 (mapped_contains (λ k. get_or ids k 0) (live_places slots os) k in_list)

pub lent_exactly : (slots : Slots) (es : Places) (ids : List ℕ) (l : Lit) (os : List Occurrence) → AreNamed es ids slots → AreEntriesOf slots l os → (id : ℕ) → Contains (ids_at ids (live_places slots os)) id ↔ HasLiteral (content_at slots es) l id
lent_exactly slots es ids l os a x id = (lent_has slots es ids l os a x id, λ h. lent_at slots es ids l os a x id h (place_of es id) refl)

-- one entry after another
step_live : (slots : Slots) (o : Occurrence) (rest : List Occurrence) (b : Bool) → is_some (get_or slots o.place None) ≡ b → live_places slots (o ∷ rest) ≡ cond b (o.place ∷ live_places slots rest) (live_places slots rest)
step_live slots o rest b e = ap (λ (d : Bool). cond d (o.place ∷ live_places slots rest) (live_places slots rest)) e

dropped : (os : List Occurrence) (k : ℕ) (d : Occurrence) → k < length os → drop k os ≡ get_or os k d ∷ drop (k + 1) os
dropped os k d h = drop_more os k d h

pub live_at : (slots : Slots) (os : List Occurrence) (k : ℕ) (d : Occurrence) (b : Bool) → k < length os → is_some (get_or slots (get_or os k d).place None) ≡ b
    → live_places slots (drop k os) ≡ cond b ((get_or os k d).place ∷ live_places slots (drop (k + 1) os)) (live_places slots (drop (k + 1) os))
live_at slots os k d b h e = ap (live_places slots) (dropped os k d h) ∙ step_live slots (get_or os k d) (drop (k + 1) os) b e

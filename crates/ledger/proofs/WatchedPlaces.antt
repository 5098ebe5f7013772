-- The clauses that are watched, with a place more and with one fewer.
use Rattle.std.proofs.Common.{◌≡◌, ℕ, ◌+◌, ◌-◌, ◌*◌, ◌<◌, ◌≤◌, ◌⊎◌, inl, inr, Option, None, Some, List, [], ◌∷◌, ◌++◌, length, length-append, get_or, set, take, Contains, refl, ap, sym, subst, ◌∙◌, arith}
use Rattle.std.proofs.lemmas.Bool.{cases_eq, cases_lt}
use Rattle.std.proofs.lemmas.List.{get_or_append_left, get_or_past, get_or_push, get_or-set_other, get_or-set_same, get_or-take, length-take-le}
use Rattle.linear.specs.declared.term.Lit.{Lit}
use Rattle.normal_form.specs.Normal.{NormalConstraint}
use Rattle.ledger.specs.declared.pair.Pair.{Pair}
use Rattle.linear.specs.Literal.{code}
use Rattle.ledger.specs.Watched.{AreLiteralsOf, AreWatched, IsPairOf, IsPairWithin, IsWatched, StandsIn, Tell, Watching}
use Rattle.ledger.proofs.Attaching.{place_cases}
use Rattle.ledger.proofs.FallingRows.{some_there}

abbrev Slots : Type 0
Slots = List (Option NormalConstraint)

none_is_not_some : {X : Type 0} (x : X) → None ≡ Some x → ⊥
none_is_not_some x e = cc

some_same : {X : Type 0} (x y : X) (o : Option X) → o ≡ Some x → o ≡ Some y → x ≡ y
some_same x y o e f = cc

-- the lists of the places below a number are the same
abbrev pub AreSameLists : ℕ → Watching → Watching → Type 0
AreSameLists count w new = (k : ℕ) → k < count → get_or new.literals k [] ≡ get_or w.literals k []

-- what watches the clause of a new place: nothing, or two of its literals that tell of it, in whose rows the place stands
abbrev pub IsNewWatch : Watching → List Lit → ℕ → ℕ → Option NormalConstraint → Option Pair → Type 0
IsNewWatch w assigned variables place s None = Unit {0}
IsNewWatch w assigned variables place None (Some p) = ⊥
IsNewWatch w assigned variables place (Some n) (Some p) =
    IsPairOf n p × IsPairWithin variables p × ((h : ℕ) → Tell (take h assigned) n p) × StandsIn w.rows p.first place × StandsIn w.rows p.second place × AreLiteralsOf n (get_or w.literals place [])

pair_cases : (pairs : List (Option Pair)) (o : Option Pair) (p : Pair) (k : ℕ) → get_or (pairs ++ o ∷ []) k None ≡ Some p → ((k < length pairs) × (get_or pairs k None ≡ Some p)) ⊎ ((k ≡ length pairs) × (o ≡ Some p))
pair_cases pairs o p k e = elim (cases_eq k (length pairs)) [
  | inl here ↦ inr (here, sym (get_or_push pairs o None k (sym here)) ∙ e)
  | inr other ↦ elim (cases_lt k (length pairs)) [
    | inl low ↦ inl (low, sym (get_or_append_left pairs (o ∷ []) None k low) ∙ e)
    | inr high ↦ absurd (none_is_not_some p (sym (get_or_past (pairs ++ o ∷ []) k None (omega (arith, high, other, length-append pairs (o ∷ [])))) ∙ e))
  ]
]

-- the literals of a new place are of the variables
new_within : (w : Watching) (assigned : List Lit) (variables place : ℕ) (s : Option NormalConstraint) (o : Option Pair) (p : Pair) → IsNewWatch w assigned variables place s o → o ≡ Some p → IsPairWithin variables p
new_within w assigned variables place s None p i e = absurd (none_is_not_some p e)
new_within w assigned variables place None (Some q) p i e = absurd i
new_within w assigned variables place (Some n) (Some q) p i e = subst (IsPairWithin variables) (some_same q p (Some q) refl e) i.1

-- at a new place that is watched there is a clause
new_there : (w : Watching) (assigned : List Lit) (variables place : ℕ) (s : Option NormalConstraint) (o : Option Pair) (p : Pair) → IsNewWatch w assigned variables place s o → o ≡ Some p → (n : NormalConstraint) × (s ≡ Some n)
new_there w assigned variables place s None p i e = absurd (none_is_not_some p e)
new_there w assigned variables place None (Some q) p i e = absurd i
new_there w assigned variables place (Some n) (Some q) p i e = (n, refl)

new_watch : (w : Watching) (assigned : List Lit) (variables place : ℕ) (s : Option NormalConstraint) (n : NormalConstraint) (o : Option Pair) (p : Pair) → IsNewWatch w assigned variables place s o → s ≡ Some n → o ≡ Some p → IsWatched w.rows assigned place n p × AreLiteralsOf n (get_or w.literals place [])
new_watch w assigned variables place s n None p i e f = absurd (none_is_not_some p f)
new_watch w assigned variables place None n (Some q) p i e f = absurd i
new_watch w assigned variables place (Some m) n (Some q) p i e f =
    subst (λ (x : NormalConstraint). IsWatched w.rows assigned place x p × AreLiteralsOf x (get_or w.literals place [])) (some_same m n (Some m) refl e)
    (subst (λ (r : Pair). IsWatched w.rows assigned place m r × AreLiteralsOf m (get_or w.literals place [])) (some_same q p (Some q) refl f) (
      record { of_it = i.0; first = i.3; second = i.4; tell = i.2 },
      i.5,
    ))

-- one place more
pub watched_more : (slots : Slots) (assigned : List Lit) (variables : ℕ) (w new : Watching) (s : Option NormalConstraint) (o : Option Pair) → AreWatched slots assigned variables w → length slots ≡ length w.pairs → new.pairs ≡ w.pairs ++ o ∷ [] → length w.rows ≤ length new.rows
    → ((l : Lit) (k : ℕ) → StandsIn w.rows l k → StandsIn new.rows l k) → AreSameLists (length w.pairs) w new → IsNewWatch new assigned variables (length w.pairs) s o
    → AreWatched (slots ++ s ∷ []) assigned variables new
watched_more slots assigned variables w new s o a many e long kept lists watch =
    let at : (k : ℕ) (p : Pair) → get_or new.pairs k None ≡ Some p → get_or (w.pairs ++ o ∷ []) k None ≡ Some p = λ k p f. ap (λ (xs : List (Option Pair)). get_or xs k None) (sym e) ∙ f in
    record {
      size = omega (arith, a.size, long);
      within = λ k p f. elim (pair_cases w.pairs o p k (at k p f)) [
        | inl before ↦ a.within k p before.1
        | inr last ↦ new_within new assigned variables (length w.pairs) s o p watch last.1
      ];
      there = λ k p f. elim (pair_cases w.pairs o p k (at k p f)) [
        | inl before ↦
            let was = a.there k p before.1 in
            (was.0, get_or_append_left slots (s ∷ []) None k (omega (arith, before.0, many)) ∙ was.1)
        | inr last ↦
            let new_one = new_there new assigned variables (length w.pairs) s o p watch last.1 in
            (new_one.0, get_or_push slots s None k (omega (arith, last.0, many)) ∙ new_one.1)
      ];
      each = λ k m p slot f. elim (place_cases slots s m k slot) [
        | inl before ↦ elim (pair_cases w.pairs o p k (at k p f)) [
          | inl there ↦
              let i = a.each k m p before.1 there.1 in
              record { of_it = i.of_it; first = kept p.first k i.first; second = kept p.second k i.second; tell = i.tell }
          | inr last ↦ absurd (omega (arith, before.0, last.0, many))
        ]
        | inr end ↦ elim (pair_cases w.pairs o p k (at k p f)) [
          | inl there ↦ absurd (omega (arith, there.0, end.0, many))
          | inr last ↦
              subst (λ (x : ℕ). IsWatched new.rows assigned x m p) (sym last.0) (new_watch new assigned variables (length w.pairs) s m o p watch end.1 last.1).0
        ]
      ];
      listed = λ k m p slot f. elim (place_cases slots s m k slot) [
        | inl before ↦ elim (pair_cases w.pairs o p k (at k p f)) [
          | inl there ↦ subst (AreLiteralsOf m) (sym (lists k there.0)) (a.listed k m p before.1 there.1)
          | inr last ↦ absurd (omega (arith, before.0, last.0, many))
        ]
        | inr end ↦ elim (pair_cases w.pairs o p k (at k p f)) [
          | inl there ↦ absurd (omega (arith, there.0, end.0, many))
          | inr last ↦
              subst (λ (x : ℕ). AreLiteralsOf m (get_or new.literals x [])) (sym last.0) (new_watch new assigned variables (length w.pairs) s m o p watch end.1 last.1).1
        ]
      ];
    }

-- the same, where rows have places more
pub watched_kept : (slots : Slots) (assigned : List Lit) (variables : ℕ) (w new : Watching) → AreWatched slots assigned variables w → new.pairs ≡ w.pairs → length w.rows ≤ length new.rows → ((l : Lit) (k : ℕ) → StandsIn w.rows l k → StandsIn new.rows l k) → AreSameLists (length w.pairs) w new → AreWatched slots assigned variables new
watched_kept slots assigned variables w new a e long kept lists = record {
  size = omega (arith, a.size, long);
  within = λ k p f. a.within k p (ap (λ (xs : List (Option Pair)). get_or xs k None) (sym e) ∙ f);
  there = λ k p f. a.there k p (ap (λ (xs : List (Option Pair)). get_or xs k None) (sym e) ∙ f);
  each = λ k n p slot f.
      let i = a.each k n p slot (ap (λ (xs : List (Option Pair)). get_or xs k None) (sym e) ∙ f) in
      record { of_it = i.of_it; first = kept p.first k i.first; second = kept p.second k i.second; tell = i.tell };
  listed = λ k n p slot f.
      let was : get_or w.pairs k None ≡ Some p = ap (λ (xs : List (Option Pair)). get_or xs k None) (sym e) ∙ f in
      subst (AreLiteralsOf n) (sym (lists k (some_there w.pairs k p was))) (a.listed k n p slot was);
}

-- more rows and variables
pub watched_wider : (slots : Slots) (assigned : List Lit) (variables more : ℕ) (w new : Watching) → AreWatched slots assigned variables w → new.pairs ≡ w.pairs → new.literals ≡ w.literals → variables ≤ more → 2 * more ≤ length new.rows → ((k : ℕ) → get_or new.rows k [] ≡ get_or w.rows k []) → AreWatched slots assigned more new
watched_wider slots assigned variables more w new a e lists up long same = record {
  size = long;
  within = λ k p f. let i = a.within k p (ap (λ (xs : List (Option Pair)). get_or xs k None) (sym e) ∙ f) in (omega (arith, i.0, up), omega (arith, i.1, up));
  there = λ k p f. a.there k p (ap (λ (xs : List (Option Pair)). get_or xs k None) (sym e) ∙ f);
  each = λ k n p slot f.
      let i = a.each k n p slot (ap (λ (xs : List (Option Pair)). get_or xs k None) (sym e) ∙ f) in
      record { of_it = i.of_it; first = stands p.first k i.first; second = stands p.second k i.second; tell = i.tell };
  listed = λ k n p slot f. subst (λ (xs : List (List Lit)). AreLiteralsOf n (get_or xs k [])) (sym lists) (a.listed k n p slot (ap (λ (xs : List (Option Pair)). get_or xs k None) (sym e) ∙ f));
}
  where
    stands : (l : Lit) (k : ℕ) → StandsIn w.rows l k → StandsIn new.rows l k
    stands l k s = subst (λ (xs : List ℕ). Contains xs k) (sym (same (code l))) s

-- one place fewer
pub watched_fewer : (slots rest : Slots) (assigned : List Lit) (variables : ℕ) (w new : Watching) (n : NormalConstraint) → slots ≡ rest ++ Some n ∷ [] → length slots ≡ length w.pairs → new.pairs ≡ take (length w.pairs - 1) w.pairs → new.rows ≡ w.rows → ((k : ℕ) → k + 1 < length w.pairs → get_or new.literals k [] ≡ get_or w.literals k []) → AreWatched slots assigned variables w
    → AreWatched rest assigned variables new
watched_fewer slots rest assigned variables w new n e many pairs rows lists a =
    let short : length (take (length w.pairs - 1) w.pairs) ≡ length w.pairs - 1 = length-take-le (length w.pairs - 1) w.pairs (omega arith) in
    let at : (k : ℕ) (p : Pair) → get_or new.pairs k None ≡ Some p → get_or w.pairs k None ≡ Some p = λ k p f.
    let g : get_or (take (length w.pairs - 1) w.pairs) k None ≡ Some p = ap (λ (xs : List (Option Pair)). get_or xs k None) (sym pairs) ∙ f in
    let low : k < length w.pairs - 1 = omega (arith, some_there (take (length w.pairs - 1) w.pairs) k p g, short) in
    sym (get_or-take (length w.pairs - 1) w.pairs k None low) ∙ g in
    let was : (k : ℕ) (m : NormalConstraint) → get_or rest k None ≡ Some m → get_or slots k None ≡ Some m = λ k m is.
    ap (λ (os : Slots). get_or os k None) e ∙ get_or_append_left rest (Some n ∷ []) None k (some_there rest k m is) ∙ is in
    record {
      size = omega (arith, a.size, ap (length {A = List ℕ}) rows);
      within = λ k p f. a.within k p (at k p f);
      there = λ k p f.
          let found = a.there k p (at k p f) in
          let low : k < length rest = omega (arith, some_there (take (length w.pairs - 1) w.pairs) k p (ap (λ (xs : List (Option Pair)). get_or xs k None) (sym pairs) ∙ f), short, many, ap (length {A = Option NormalConstraint}) e, length-append rest (Some n ∷ [])) in
          (found.0, sym (get_or_append_left rest (Some n ∷ []) None k low) ∙ ap (λ (os : Slots). get_or os k None) (sym e) ∙ found.1);
      each = λ k m p slot f. subst (λ (xs : List (List ℕ)). IsWatched xs assigned k m p) (sym rows) (a.each k m p (was k m slot) (at k p f));
      listed = λ k m p slot f.
          let low : k + 1 < length w.pairs = omega (arith, some_there (take (length w.pairs - 1) w.pairs) k p (ap (λ (xs : List (Option Pair)). get_or xs k None) (sym pairs) ∙ f), short) in
          subst (AreLiteralsOf m) (sym (lists k low)) (a.listed k m p (was k m slot) (at k p f));
    }

-- a place from which the clause was taken, which no literal watches any more
pub watched_without : (slots : Slots) (place : ℕ) (assigned : List Lit) (variables : ℕ) (w new : Watching) → place < length slots → place < length w.pairs → new.pairs ≡ set w.pairs place None → new.rows ≡ w.rows → ((k : ℕ) → (k ≡ place → ⊥) → get_or new.literals k [] ≡ get_or w.literals k [])
    → AreWatched slots assigned variables w → AreWatched (set slots place None) assigned variables new
watched_without slots place assigned variables w new low there pairs rows lists a = record {
  size = omega (arith, a.size, ap (length {A = List ℕ}) rows);
  within = λ k p f. a.within k p (at k p f);
  there = λ k p f. let found = a.there k p (at k p f) in (found.0, get_or-set_other slots place k None None (elsewhere k p f) ∙ found.1);
  each = λ k n p slot f. subst (λ (xs : List (List ℕ)). IsWatched xs assigned k n p) (sym rows) (a.each k n p (was k n slot) (at k p f));
  listed = λ k n p slot f. subst (AreLiteralsOf n) (sym (lists k (elsewhere k p f))) (a.listed k n p (was k n slot) (at k p f));
}
  where
    elsewhere : (k : ℕ) (p : Pair) → get_or new.pairs k None ≡ Some p → k ≡ place → ⊥
    elsewhere k p f e = none_is_not_some p (sym (ap (λ (xs : List (Option Pair)). get_or xs k None) pairs ∙ ap (λ (j : ℕ). get_or (set w.pairs place None) j None) e ∙ get_or-set_same w.pairs place None None there) ∙ f)

    at : (k : ℕ) (p : Pair) → get_or new.pairs k None ≡ Some p → get_or w.pairs k None ≡ Some p
    at k p f = sym (ap (λ (xs : List (Option Pair)). get_or xs k None) pairs ∙ get_or-set_other w.pairs place k None None (elsewhere k p f)) ∙ f

    was : (k : ℕ) (n : NormalConstraint) → get_or (set slots place None) k None ≡ Some n → get_or slots k None ≡ Some n
    was k n slot = elim (cases_eq k place) [
      | inl here ↦ absurd (none_is_not_some n (sym (ap (λ (j : ℕ). get_or (set slots place None) j None) here ∙ get_or-set_same slots place None None low) ∙ slot))
      | inr other ↦ sym (get_or-set_other slots place k None None other) ∙ slot
    ]

pub same_rows : (rows new : List (List ℕ)) → new ≡ rows → (l : Lit) (k : ℕ) → StandsIn rows l k → StandsIn new l k
same_rows rows new e l k s = subst (λ (xs : List (List ℕ)). StandsIn xs l k) (sym e) s

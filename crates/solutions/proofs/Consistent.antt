-- An assignment has no literal beside its opposite where each of its literals agrees with the table of its values, or stands beyond
-- it without its opposite before.
use Rattle.std.proofs.Common.{◌≡◌, ◌↔◌, ◌⊎◌, ℕ, zero, suc, ◌+◌, ◌<◌, ◌≤◌, inl, inr, Bool, true, false, not, ◌||◌, IsTrue, List, [], ◌∷◌, ◌++◌, Option, Some, None, length, get_or, take, refl, sym, ap, subst, ◌∙◌, arith}
use Rattle.std.proofs.lemmas.Bool.{cases_lt, false≢true}
use Rattle.std.proofs.lemmas.List.{take_more}
use Rattle.std.specs.FinSet as set
use Rattle.std.specs.Ordering.{nat_cmp}
use Rattle.linear.specs.Literal.{opposite}
use Rattle.linear.specs.declared.term.Lit.{Lit}
use Rattle.normal_form.specs.Normal.{only}
use Rattle.normal_form.proofs.SetSums.{only_is}
use Rattle.propagate.specs.Ids.{IdSet, HasId}
use Rattle.propagate.specs.Literals.{among, lists, IsConsistent}
use Rattle.propagate.proofs.Gathered.{inserted_here, inserted_keeps, inserted_cases}
use Rattle.propagate.proofs.Assignments.{among_cases, among_head, among_left, among_right, among_tail, or_cases}
use Rattle.solutions.specs.Table.{GivesValue, IsTableOf, IsSideOf, AreSidesOf, Agrees}

-- the literal of one more place is that literal
own : (l : Lit) (v : ℕ) (s : Bool) → among (l ∷ []) v s ≡ true → (v ≡ l.var.0) × (s ≡ l.negated)
own l v s h = elim (or_cases (only (l.var.0) l.negated v s) false h) as (λ _. (v ≡ l.var.0) × (s ≡ l.negated)) [
  | inl o ↦ only_is (l.var.0) v l.negated s o
  | inr o ↦ absurd (false≢true o)
]

is_own : (l : Lit) (v : ℕ) (s : Bool) → v ≡ l.var.0 → s ≡ l.negated → among (l ∷ []) v s ≡ true
is_own l v s e f = ap (λ (w : ℕ). among (l ∷ []) w s) e ∙ ap (λ (b : Bool). among (l ∷ []) (l.var.0) b) f ∙ among_head l []

pub side_none : (from : ℕ) (s : Bool) (ids : IdSet) → ids ≡ set.empty → IsSideOf [] from s ids
side_none from s ids none v h = (λ has. absurd (false≢true (sym (set.contains-empty nat_cmp v) ∙ subst (λ (x : IdSet). HasId x v) none has)), λ m. absurd (false≢true m))

pub side_own : (before : List Lit) (l : Lit) (from : ℕ) (s : Bool) (ids new : IdSet) → l.negated ≡ s → new ≡ set.insert ids (l.var.0) → IsSideOf before from s ids → IsSideOf (before ++ l ∷ []) from s new
side_own before l from s ids new sign is side = subst (λ (x : IdSet). IsSideOf (before ++ l ∷ []) from s x) (sym is) (λ v h. (there v h, back v h))
  where
    there : (v : ℕ) → from ≤ v → HasId (set.insert ids (l.var.0)) v → among (before ++ l ∷ []) v s ≡ true
    there v h has = elim (inserted_cases ids (l.var.0) v has) as (λ _. among (before ++ l ∷ []) v s ≡ true) [
      | inl same ↦ among_right before (l ∷ []) v s (is_own l v s same (sym sign))
      | inr old ↦ among_left before (l ∷ []) v s ((side v h).0 old)
    ]

    back : (v : ℕ) → from ≤ v → among (before ++ l ∷ []) v s ≡ true → HasId (set.insert ids (l.var.0)) v
    back v h m = elim (among_cases before (l ∷ []) v s m) as (λ _. HasId (set.insert ids (l.var.0)) v) [
      | inl old ↦ inserted_keeps ids (l.var.0) v ((side v h).1 old)
      | inr new ↦ subst (HasId (set.insert ids (l.var.0))) (sym (own l v s new).0) (inserted_here ids (l.var.0))
    ]

-- a literal of the other sign, or of a variable of the table, does not count
pub side_other : (before : List Lit) (l : Lit) (from : ℕ) (s : Bool) (ids : IdSet) → ((v : ℕ) → from ≤ v → v ≡ l.var.0 → s ≡ l.negated → ⊥) → IsSideOf before from s ids → IsSideOf (before ++ l ∷ []) from s ids
side_other before l from s ids other side v h = (λ has. among_left before (l ∷ []) v s ((side v h).0 has), back)
  where
    back : among (before ++ l ∷ []) v s ≡ true → HasId ids v
    back m = elim (among_cases before (l ∷ []) v s m) as (λ _. HasId ids v) [
      | inl old ↦ (side v h).1 old
      | inr new ↦ let e = own l v s new in absurd (other v h e.0 e.1)
    ]

pub sides_below : (before : List Lit) (l : Lit) (from : ℕ) (plain negated : IdSet) → l.var.0 < from → AreSidesOf before from plain negated → AreSidesOf (before ++ l ∷ []) from plain negated
sides_below before l from plain negated below sides =
    (side_other before l from false plain (λ v h e f. omega (arith, below, h, e)) sides.0, side_other before l from true negated (λ v h e f. omega (arith, below, h, e)) sides.1)

pub sides_negated : (before : List Lit) (l : Lit) (from : ℕ) (plain negated new : IdSet) → l.negated ≡ true → new ≡ set.insert negated (l.var.0) → AreSidesOf before from plain negated → AreSidesOf (before ++ l ∷ []) from plain new
sides_negated before l from plain negated new sign is sides =
    (side_other before l from false plain (λ v h e f. false≢true (f ∙ sign)) sides.0, side_own before l from true negated new sign is sides.1)

pub sides_plain : (before : List Lit) (l : Lit) (from : ℕ) (plain negated new : IdSet) → l.negated ≡ false → new ≡ set.insert plain (l.var.0) → AreSidesOf before from plain negated → AreSidesOf (before ++ l ∷ []) from new negated
sides_plain before l from plain negated new sign is sides =
    (side_own before l from false plain new sign is sides.0, side_other before l from true negated (λ v h e f. false≢true (sym sign ∙ sym f)) sides.1)

-- what is not in a set
pub apart_by : (b : Bool) (P : Type 0) → IsTrue b ↔ P → IsTrue (not b) ↔ (P → ⊥)
apart_by true P h = (λ f. absurd (false≢true f), λ none. absurd (none (h.0 refl)))
apart_by false P h = (λ _ p. false≢true (h.1 p), λ _. refl)

-- each literal agrees with the table and those listed
abbrev pub IsApart : List (Option Bool) → List Lit → Type 0
IsApart table assigned = (v : ℕ) (s : Bool) → among assigned v s ≡ true → Agrees table assigned v s

not_itself : (s : Bool) → not s ≡ s → ⊥
not_itself true h = false≢true h
not_itself false h = false≢true (sym h)

turned : (s t : Bool) → not s ≡ t → s ≡ not t
turned true t h = ap not h
turned false t h = ap not h

pub apart_more : (table : List (Option Bool)) (before : List Lit) (l : Lit) → IsApart table before → Agrees table before (l.var.0) l.negated → IsApart table (before ++ l ∷ [])
apart_more table before l apart agrees v s m = (inside (among_cases before (l ∷ []) v s m), λ h n. outside h (among_cases before (l ∷ []) v s m) (among_cases before (l ∷ []) v (not s) n))
  where
    moved : (v ≡ l.var.0) → (s ≡ l.negated) → Agrees table before v s
    moved e f = subst (λ (w : ℕ). Agrees table before w s) (sym e) (subst (λ (b : Bool). Agrees table before (l.var.0) b) (sym f) agrees)

    at : (among before v s ≡ true) ⊎ (among (l ∷ []) v s ≡ true) → Agrees table before v s
    at (inl old) = apart v s old
    at (inr new) = let e = own l v s new in moved e.0 e.1

    inside : (among before v s ≡ true) ⊎ (among (l ∷ []) v s ≡ true) → v < length table → get_or table v None ≡ Some (not s)
    inside which = (at which).0

    outside : length table ≤ v → (among before v s ≡ true) ⊎ (among (l ∷ []) v s ≡ true) → (among before v (not s) ≡ true) ⊎ (among (l ∷ []) v (not s) ≡ true) → ⊥
    outside h which (inl old) = (at which).1 h old
    outside h (inl old) (inr new) =
        let e = own l v (not s) new in
        let opposite : among before (l.var.0) (not l.negated) ≡ true = ap (λ (w : ℕ). among before w (not l.negated)) (sym e.0) ∙ ap (λ (b : Bool). among before v b) (sym (turned s l.negated e.1)) ∙ old in
        agrees.1 (subst (λ (w : ℕ). length table ≤ w) e.0 h) opposite
    outside h (inr one) (inr other) = not_itself s ((own l v (not s) other).1 ∙ sym (own l v s one).1)

some_is : (x y : Bool) → ◌≡◌ {A = Option Bool} (Some x) (Some y) → x ≡ y
some_is x y e = cc

pub apart_consistent : (table : List (Option Bool)) (assigned : List Lit) → IsApart table assigned → IsConsistent assigned
apart_consistent table assigned apart (l, m, n) = elim (cases_lt (l.var.0) (length table)) as (λ _. ⊥) [
  | inl inside ↦
      let one = (apart (l.var.0) l.negated m).0 inside in
      let other = (apart (l.var.0) (not l.negated) n).0 inside in
      not_itself (not l.negated) (some_is (not (not l.negated)) (not l.negated) (sym other ∙ one))
  | inr outside ↦ (apart (l.var.0) l.negated m).1 outside n
]

pub among_take : (i : ℕ) (xs : List Lit) (v : ℕ) (s : Bool) → among (take i xs) v s ≡ true → among xs v s ≡ true
among_take zero xs v s h = absurd (false≢true h)
among_take (suc i) [] v s h = absurd (false≢true h)
among_take (suc i) (x ∷ xs) v s h = elim (or_cases (only (x.var.0) x.negated v s) (among (take i xs) v s) h) as (λ _. among (x ∷ xs) v s ≡ true) [
  | inl o ↦ ap (λ (b : Bool). b || among xs v s) o
  | inr m ↦ among_tail x xs v s (among_take i xs v s m)
]

pub listed_at : (i : ℕ) (xs : List Lit) (d : Lit) → i < length xs → lists xs (get_or xs i d) ≡ true
listed_at i xs d h =
    let l = get_or xs i d in
    among_take (i + 1) xs (l.var.0) l.negated (ap (λ (ys : List Lit). among ys (l.var.0) l.negated) (take_more xs i d h) ∙ among_right (take i xs) (l ∷ []) (l.var.0) l.negated (among_head l []))

-- a literal of an assignment without opposites agrees
pub consistent_agrees : (assigned : List Lit) (table : List (Option Bool)) (i : ℕ) (l : Lit) → IsTableOf assigned table → IsConsistent assigned → lists assigned l ≡ true → Agrees table (take i assigned) (l.var.0) l.negated
consistent_agrees assigned table i l is consistent here =
    (λ inside. by (get_or table (l.var.0) None) (is (l.var.0) inside), λ outside m. consistent (l, here, among_take i assigned (l.var.0) (not l.negated) m))
  where
    at : (value s : Bool) → among assigned (l.var.0) s ≡ true → among assigned (l.var.0) (not value) ≡ true → (among assigned (l.var.0) (not s) ≡ true → ⊥) → value ≡ not s
    at true true h m none = absurd (none m)
    at true false h m none = refl
    at false true h m none = refl
    at false false h m none = absurd (none m)

    not_not : (s : Bool) → not (not s) ≡ s
    not_not true = refl
    not_not false = refl

    by : (o : Option Bool) → GivesValue assigned (l.var.0) o → o ≡ Some (not l.negated)
    by None none = absurd (none (not l.negated) (ap (among assigned (l.var.0)) (not_not l.negated) ∙ here))
    by (Some value) gives = ap (λ (b : Bool). Some b) (at value l.negated here gives (λ m. consistent (l, here, m)))

-- beyond the table its opposite tells
pub beyond_agrees : (table : List (Option Bool)) (before : List Lit) (l : Lit) (answer : Bool) → length table ≤ l.var.0 → IsTrue answer ↔ (lists before (opposite l) ≡ true → ⊥) → IsTrue answer ↔ Agrees table before (l.var.0) l.negated
beyond_agrees table before l answer outside h = (λ y. (λ inside. absurd (omega (arith, inside, outside)), λ _. h.0 y), λ a. h.1 (a.1 outside))

pub apart_none : (table : List (Option Bool)) → IsApart table []
apart_none table v s m = absurd (false≢true m)

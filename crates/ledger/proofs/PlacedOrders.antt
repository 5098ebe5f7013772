-- The orders of constraints by place, with a constraint more and with one fewer, and with literals more and fewer.
use Rattle.std.proofs.Common.{◌≡◌, ℕ, ◌<◌, ◌≤◌, inl, inr, Option, None, Some, List, [], ◌∷◌, ◌++◌, length, get_or, set, ap, sym, subst, ◌∙◌, arith}
use Rattle.std.proofs.lemmas.Bool.{cases_eq}
use Rattle.std.proofs.lemmas.List.{get_or_append_left, get_or-set_other, get_or-set_same}
use Rattle.linear.specs.declared.term.Lit.{Lit}
use Rattle.normal_form.specs.declared.term.NormalTerm.{NormalTerm}
use Rattle.normal_form.specs.Normal.{NormalConstraint}
use Rattle.ledger.specs.Ledgers.{constraint_in}
use Rattle.ledger.specs.Orders.{AreOrders, ArePassed, IsDecreasing, IsOrder, Order, Ordering, order_at}
use Rattle.ledger.proofs.Attaching.{place_cases}
use Rattle.ledger.proofs.FallingRows.{some_there}
use Rattle.ledger.proofs.ForcedLiterals.{still_passed}

abbrev Slots : Type 0
Slots = List (Option NormalConstraint)

-- what is kept at all places but one is the same
abbrev pub AreKeptBut : ℕ → Ordering → Ordering → Type 0
AreKeptBut place old new = (k : ℕ) → (k ≡ place → ⊥) → order_at new k ≡ order_at old k

moved : (terms : List NormalTerm) (xs : List Lit) (o p : Order) → p ≡ o → IsOrder xs terms o → IsOrder xs terms p
moved terms xs o p same is = subst (IsOrder xs terms) (sym same) is

-- an order behind the last place says nothing
pub orders_beside : (slots : Slots) (xs : List Lit) (orders new : Ordering) → AreOrders slots xs orders → AreKeptBut (length slots) orders new → AreOrders slots xs new
orders_beside slots xs orders new a same k n e = moved n.terms xs (order_at orders k) (order_at new k) (same k (λ here. absurd (omega (arith, here, some_there slots k n e)))) (a k n e)

-- one place more
pub orders_more : (slots : Slots) (xs : List Lit) (orders new : Ordering) (s : Option NormalConstraint) → AreOrders slots xs orders → AreKeptBut (length slots) orders new → ((n : NormalConstraint) → s ≡ Some n → IsOrder xs n.terms (order_at new (length slots))) → AreOrders (slots ++ s ∷ []) xs new
orders_more slots xs orders new s a same its k m e = elim (place_cases slots s m k e) [
  | inl before ↦ moved m.terms xs (order_at orders k) (order_at new k) (same k (λ here. absurd (omega (arith, here, before.0)))) (a k m before.1)
  | inr last ↦ subst (λ (j : ℕ). IsOrder xs m.terms (order_at new j)) (sym last.0) (its m last.1)
]

-- one place fewer
pub orders_fewer : (slots rest : Slots) (xs : List Lit) (orders new : Ordering) (n : NormalConstraint) → slots ≡ rest ++ Some n ∷ [] → AreOrders slots xs orders → ((k : ℕ) → k < length rest → order_at new k ≡ order_at orders k) → AreOrders rest xs new
orders_fewer slots rest xs orders new n e a same k m is =
    let low : k < length rest = some_there rest k m is in
    let was : get_or slots k None ≡ Some m = ap (λ (os : Slots). get_or os k None) e ∙ get_or_append_left rest (Some n ∷ []) None k low ∙ is in
    moved m.terms xs (order_at orders k) (order_at new k) (same k low) (a k m was)

none_is_not_some : (n : NormalConstraint) → None ≡ Some n → ⊥
none_is_not_some n e = cc

-- a place from which the constraint was taken
pub orders_without : (slots : Slots) (xs : List Lit) (place : ℕ) (orders new : Ordering) → place < length slots → AreOrders slots xs orders → AreKeptBut place orders new → AreOrders (set slots place None) xs new
orders_without slots xs place orders new low a same k n e = elim (cases_eq k place) [
  | inl here ↦ absurd (none_is_not_some n (sym (ap (λ (j : ℕ). get_or (set slots place None) j None) here ∙ get_or-set_same slots place None None low) ∙ e))
  | inr other ↦ moved n.terms xs (order_at orders k) (order_at new k) (same k other) (a k n (sym (get_or-set_other slots place k None None other) ∙ e))
]

-- what a place that was given an order says, where it is the one behind the last
pub others : (slots same : Slots) (orders new : Ordering) (place : ℕ) → same ≡ slots → place ≡ length same → AreKeptBut place orders new → AreKeptBut (length slots) orders new
others slots same orders new place e is h k apart = h k (λ here. apart (here ∙ is ∙ ap (length {A = Option NormalConstraint}) e))

none_passed : (terms : List NormalTerm) (order : List ℕ) (xs : List Lit) (count : ℕ) → count ≡ 0 → ArePassed terms order xs count
none_passed terms order xs count none k h free = absurd (omega (arith, none, h))

pub its : (slots same : Slots) (xs : List Lit) (n m : NormalConstraint) (new : Ordering) (place : ℕ) → Some n ≡ Some m → same ≡ slots → place ≡ length same → IsDecreasing n.terms (order_at new place).places → (order_at new place).passed ≡ 0 → IsOrder xs m.terms (order_at new (length slots))
its slots same xs n m new place own e is o none =
    let first : IsOrder xs n.terms (order_at new (length slots)) = subst (λ (k : ℕ). IsOrder xs n.terms (order_at new k)) (is ∙ ap (length {A = Option NormalConstraint}) e) (o, none_passed n.terms (order_at new place).places xs (order_at new place).passed none) in
    subst (λ (x : Option NormalConstraint). IsOrder xs (constraint_in x).terms (order_at new (length slots))) own first

-- literals more
pub orders_longer : (slots : Slots) (xs new ls : List Lit) (orders : Ordering) → AreOrders slots xs orders → new ≡ xs ++ ls → AreOrders slots new orders
orders_longer slots xs new ls orders a longer k n e =
    let before = a k n e in
    (before.0, still_passed n.terms (order_at orders k).places xs new ls (order_at orders k).passed before.1 longer)

-- literals were backtracked, and nothing is passed
pub orders_anew : (slots : Slots) (xs ys : List Lit) (orders new : Ordering) → AreOrders slots xs orders → new.orders ≡ orders.orders → ((k : ℕ) → get_or new.passed k 0 ≡ 0) → AreOrders slots ys new
orders_anew slots xs ys orders new a same none k n e = (
  subst (λ (os : List (List ℕ)). IsDecreasing n.terms (get_or os k [])) (sym same) (a k n e).0,
  none_passed n.terms (get_or new.orders k []) ys (get_or new.passed k 0) (none k),
)

-- literals more, behind which more terms are passed at one place
pub orders_passed : (slots : Slots) (place : ℕ) (n : NormalConstraint) (xs ys ls : List Lit) (orders new : Ordering) (passed : ℕ) → get_or slots place None ≡ Some n → AreOrders slots xs orders → ys ≡ xs ++ ls → new.orders ≡ orders.orders
    → ((k : ℕ) → (k ≡ place → ⊥) → get_or new.passed k 0 ≡ get_or orders.passed k 0) → get_or new.passed place 0 ≤ passed → ArePassed n.terms (get_or orders.orders place []) ys passed → AreOrders slots ys new
orders_passed slots place n xs ys ls orders new passed there a longer same rest most done k m e =
    let before = orders_longer slots xs ys ls orders a longer k m e in
    let decreasing : IsDecreasing m.terms (get_or new.orders k []) = subst (λ (os : List (List ℕ)). IsDecreasing m.terms (get_or os k [])) (sym same) before.0 in
    elim (cases_eq k place) [
      | inl here ↦
          let its_own : Some n ≡ Some m = sym there ∙ ap (λ (j : ℕ). get_or slots j None) (sym here) ∙ e in (
            decreasing,
            λ i h free.
                let low : i < passed = omega (arith, h, most, ap (λ (j : ℕ). get_or new.passed j 0) here) in
                let moved_on : ArePassed m.terms (get_or new.orders k []) ys passed = passed_there place k n m (get_or orders.orders place []) (get_or new.orders k []) ys passed its_own (ap (λ (os : List (List ℕ)). get_or os k []) same ∙ ap (λ (j : ℕ). get_or orders.orders j []) here) done in
                moved_on i low free,
          )
      | inr other ↦ (
        decreasing,
        λ i h free.
            let low : i < get_or orders.passed k 0 = omega (arith, h, rest k other) in
            subst (λ (os : List (List ℕ)). ArePassed m.terms (get_or os k []) ys (get_or orders.passed k 0)) (sym same) before.1 i low free,
      )
    ]
  where
    passed_there : (place k : ℕ) (n m : NormalConstraint) (o p : List ℕ) (ys : List Lit) (passed : ℕ) → Some n ≡ Some m → p ≡ o → ArePassed n.terms o ys passed → ArePassed m.terms p ys passed
    passed_there place k n m o p ys passed same_one same_order d =
        subst (λ (q : List ℕ). ArePassed m.terms q ys passed) (sym same_order) (subst (λ (x : Option NormalConstraint). ArePassed (constraint_in x).terms o ys passed) same_one d)

-- Which place a row gives.
use Rattle.std.proofs.Common.{◌≡◌, ◌++◌, ◌+◌, ◌<◌, ◌≤◌, ℕ, zero, suc, Bool, cond, List, [], ◌∷◌, Option, None, Some, length, get_or, set, refl, sym, ap, subst, ◌∙◌, inl, inr, arith}
use Rattle.std.specs.BTreeMap.{is_at}
use Rattle.std.specs.Ordering.{nat_cmp}
use Rattle.std.proofs.lemmas.Bool.{cases_eq, cases_lt}
use Rattle.std.proofs.lemmas.List.{get_or_default, get_or_past, get_or-set_other, get_or-set_same}
use Rattle.places.specs.Places.{IsFirstPlaced, place_of}
use Rattle.places.specs.Placed.{before, entries_from, one_if_placed}
use Rattle.places.proofs.Ids.{other_id, own_id}

-- what a table that begins with an id gives another
abbrev stands : ℕ → List ℕ → ℕ → Option ℕ
stands b [] q = None
stands b (n ∷ ns) q = cond (is_at (nat_cmp q) b) (before n) (stands (b + 1) ns q)

passed : (b n : ℕ) (ns : List ℕ) (q : ℕ) → (q ≡ b → ⊥) → stands b (n ∷ ns) q ≡ stands (b + 1) ns q
passed b n ns q h = ap (λ (t : Bool). cond t (before n) (stands (b + 1) ns q)) (other_id q b h)

nothing_below : (b : ℕ) (ns : List ℕ) (q : ℕ) → q < b → stands b ns q ≡ None
nothing_below b [] q h = refl
nothing_below b (n ∷ ns) q h = passed b n ns q (λ e. omega (arith, e, h)) ∙ nothing_below (b + 1) ns q (omega (arith, h))

-- the place of an id is told by its number
stands_at : (b : ℕ) (ns : List ℕ) (k q : ℕ) → b + k ≡ q → stands b ns q ≡ before (get_or ns k 0)
stands_at b [] k q e = refl
stands_at b (n ∷ ns) zero q e = subst (λ r. stands b (n ∷ ns) r ≡ before n) (omega (arith, e)) (ap (λ (t : Bool). cond t (before n) (stands (b + 1) ns b)) (own_id b))
stands_at b (n ∷ ns) (suc k) q e = passed b n ns q (λ f. omega (arith, e, f)) ∙ stands_at (b + 1) ns k q (omega (arith, e))

found_from : (b : ℕ) (ns : List ℕ) (q : ℕ) → place_of (entries_from b ns) q ≡ stands b ns q
found_from b [] q = refl
found_from b (zero ∷ ns) q = elim (cases_eq q b) as (λ _. place_of (entries_from (b + 1) ns) q ≡ stands b (zero ∷ ns) q) [
  | inl here ↦ found_from (b + 1) ns q ∙ nothing_below (b + 1) ns q (omega (arith, here)) ∙ sym (subst (λ r. stands b (zero ∷ ns) r ≡ None) (sym here) (ap (λ (t : Bool). cond {A = Option ℕ} t None (stands (b + 1) ns b)) (own_id b)))
  | inr other ↦ found_from (b + 1) ns q ∙ sym (passed b zero ns q other)
]
found_from b (suc place ∷ ns) q = ap (cond (is_at (nat_cmp q) b) (Some place)) (found_from (b + 1) ns q)

pub placed : (ns : List ℕ) (q : ℕ) → place_of (entries_from 0 ns) q ≡ before (get_or ns q 0)
placed ns q = found_from 0 ns q ∙ stands_at 0 ns q q (omega arith)

pub placed_there : (ns : List ℕ) (q n : ℕ) → q < length ns → n ≡ get_or ns q n → before n ≡ place_of (entries_from 0 ns) q
placed_there ns q n h e = ap before (e ∙ sym (get_or_default ns q 0 n h)) ∙ sym (placed ns q)

pub not_placed : (ns : List ℕ) (q : ℕ) → length ns ≤ q → place_of (entries_from 0 ns) q ≡ None
not_placed ns q h = placed ns q ∙ ap before (get_or_past ns q 0 h)

pub before_next : (n place : ℕ) → n ≡ place + 1 → before n ≡ Some place
before_next zero place e = absurd (omega (arith, e))
before_next (suc m) place e = ap (λ (k : ℕ). Some k) (omega (arith, e))

-- an id is given another number
pub given_number : (ns : List ℕ) (id n : ℕ) → id < length ns → (q : ℕ) → place_of (entries_from 0 (set ns id n)) q ≡ cond (is_at (nat_cmp id) q) (before n) (place_of (entries_from 0 ns) q)
given_number ns id n h q = elim (cases_eq q id) as (λ _. place_of (entries_from 0 (set ns id n)) q ≡ cond (is_at (nat_cmp id) q) (before n) (place_of (entries_from 0 ns) q)) [
  | inl here ↦
      placed (set ns id n) q ∙ ap before (ap (λ (k : ℕ). get_or (set ns id n) k 0) here ∙ get_or-set_same ns id n 0 h)
      ∙ sym (subst (λ r. cond (is_at (nat_cmp id) r) (before n) (place_of (entries_from 0 ns) r) ≡ before n) (sym here) (ap (λ (t : Bool). cond t (before n) (place_of (entries_from 0 ns) id)) (own_id id)))
  | inr other ↦
      placed (set ns id n) q ∙ ap before (get_or-set_other ns id q n 0 other) ∙ sym (placed ns q)
      ∙ sym (ap (λ (t : Bool). cond t (before n) (place_of (entries_from 0 ns) q)) (other_id id q (λ e. other (sym e))))
]

-- an id beyond the table has no place to lose
pub nothing_taken : (ns : List ℕ) (id : ℕ) → length ns ≤ id → (q : ℕ) → place_of (entries_from 0 ns) q ≡ cond (is_at (nat_cmp id) q) None (place_of (entries_from 0 ns) q)
nothing_taken ns id h q = elim (cases_eq q id) as (λ _. place_of (entries_from 0 ns) q ≡ cond (is_at (nat_cmp id) q) None (place_of (entries_from 0 ns) q)) [
  | inl here ↦
      ap (place_of (entries_from 0 ns)) here ∙ not_placed ns id h
      ∙ sym (subst (λ r. cond {A = Option ℕ} (is_at (nat_cmp id) r) None (place_of (entries_from 0 ns) r) ≡ None) (sym here) (ap (λ (t : Bool). cond {A = Option ℕ} t None (place_of (entries_from 0 ns) id)) (own_id id)))
  | inr other ↦ sym (ap (λ (t : Bool). cond {A = Option ℕ} t None (place_of (entries_from 0 ns) q)) (other_id id q (λ e. other (sym e))))
]

-- an id more without a place
pub one_more : (first : ℕ) (ns : List ℕ) → entries_from first (ns ++ 0 ∷ []) ≡ entries_from first ns
one_more first [] = refl
one_more first (zero ∷ ns) = one_more (first + 1) ns
one_more first (suc place ∷ ns) = ap (λ (es : List (ℕ × ℕ)). (first, place) ∷ es) (one_more (first + 1) ns)

positive : (n : ℕ) → 0 < n → (k : ℕ) × (before n ≡ Some k)
positive zero h = absurd (omega (arith, h))
positive (suc k) h = (k, refl)

zero_is : (n : ℕ) → n ≤ 0 → before n ≡ None
zero_is zero h = refl
zero_is (suc k) h = absurd (omega (arith, h))

-- going through the row from one offset to the next
pub none_more : (ns : List ℕ) (from next n : ℕ) → next < length ns → n ≡ get_or ns next n → n ≤ 0
    → ((q : ℕ) → from ≤ q → q < next → place_of (entries_from 0 ns) q ≡ None) → (q : ℕ) → from ≤ q → q < next + 1 → place_of (entries_from 0 ns) q ≡ None
none_more ns from next n h is none so_far q above below = elim (cases_lt q next) [
  | inl low ↦ so_far q above low
  | inr high ↦ subst (λ r. place_of (entries_from 0 ns) r ≡ None) (omega (arith, below, high)) (sym (placed_there ns next n h is) ∙ zero_is n none)
]

pub found_next : (ns : List ℕ) (from next n : ℕ) → from ≤ next → next < length ns → n ≡ get_or ns next n → 0 < n
    → ((q : ℕ) → from ≤ q → q < next → place_of (entries_from 0 ns) q ≡ None) → IsFirstPlaced (entries_from 0 ns) from next
found_next ns from next n above h is some so_far = let it = positive n some in (above, (it.0, sym (placed_there ns next n h is) ∙ it.1), so_far)

pub none_found : (ns : List ℕ) (from next : ℕ) → length ns ≤ next → ((q : ℕ) → from ≤ q → q < next → place_of (entries_from 0 ns) q ≡ None) → (q : ℕ) → from ≤ q → place_of (entries_from 0 ns) q ≡ None
none_found ns from next h so_far q above = elim (cases_lt q next) [
  | inl low ↦ so_far q above low
  | inr high ↦ not_placed ns q (omega (arith, high, h))
]

-- how many have a place
first_counted : (id n : ℕ) (ns : List ℕ) → length (entries_from id (n ∷ ns)) ≡ one_if_placed n + length (entries_from (id + 1) ns)
first_counted id zero ns = omega arith
first_counted id (suc place) ns = omega arith

at_most_one : (n : ℕ) → one_if_placed n ≤ 1
at_most_one zero = omega arith
at_most_one (suc place) = omega arith

pub few_placed : (id : ℕ) (ns : List ℕ) → length (entries_from id ns) ≤ length ns
few_placed id [] = omega arith
few_placed id (n ∷ ns) = omega (arith, first_counted id n ns, at_most_one n, few_placed (id + 1) ns)

pub counted : (id : ℕ) (ns : List ℕ) (k n : ℕ) → k < length ns → length (entries_from id (set ns k n)) + one_if_placed (get_or ns k 0) ≡ length (entries_from id ns) + one_if_placed n
counted id [] k n h = absurd (omega (arith, h))
counted id (m ∷ ns) zero n h = omega (arith, first_counted id m ns, first_counted id n ns)
counted id (m ∷ ns) (suc k) n h = omega (arith, first_counted id m ns, first_counted id m (set ns k n), counted (id + 1) ns k n (omega (arith, h)))

pub all_gone : (es : List (ℕ × ℕ)) → length es ≡ 0 → es ≡ []
all_gone [] e = refl
all_gone (x ∷ es) e = absurd (omega (arith, e))

-- the number at an offset is one of those counted
pub one_counted : (ns : List ℕ) (k number one placed : ℕ) → k < length ns → number ≡ get_or ns k number → one ≡ one_if_placed number → placed ≡ length (entries_from 0 ns)
    → (n : ℕ) → length (entries_from 0 (set ns k n)) + one ≡ placed + one_if_placed n
one_counted ns k number one placed h is e f n =
    omega (arith, counted 0 ns k n h, ap one_if_placed (is ∙ sym (get_or_default ns k 0 number h)), e, f)

pub one_behind : (n place : ℕ) → n ≡ place + 1 → one_if_placed n ≡ 1
one_behind zero place e = absurd (omega (arith, e))
one_behind (suc m) place e = refl

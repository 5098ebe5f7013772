-- The literals of clauses by place: the first two of each list are its pair.
use Rattle.std.proofs.Common.{◌≡◌, inl, inr, ℕ, zero, suc, ◌+◌, ◌-◌, ◌<◌, ◌≤◌, Contains, Option, None, Some, List, [], ◌∷◌, ◌++◌, length, length-append, ◌⊎◌, get_or, set, take, map, refl, ap, sym, subst, ◌∙◌, arith}
use Rattle.std.proofs.lemmas.Bool.{cases_eq, cases_lt}
use Rattle.std.proofs.lemmas.List.{append_assoc, get_or-set_same, get_or-set_other, get_or_append_left, get_or_default, get_or_past, get_or_push, length-map, length-set, map-set, map_push, take-map}
use Rattle.std.proofs.Math.ListN.{get_or-map}
use Rattle.linear.specs.declared.term.Lit.{Lit}
use Rattle.normal_form.specs.declared.term.NormalTerm.{NormalTerm}
use Rattle.normal_form.specs.Normal.{NormalConstraint, Rises}
use Rattle.propagate.specs.Literals.{coefficient_of}
use Rattle.propagate.specs.Passes.{literal_of}
use Rattle.ledger.specs.declared.pair.Pair.{Pair}
use Rattle.ledger.specs.Falls.{IsBeside, IsOneOf}
use Rattle.ledger.specs.Watched.{AreLiteralsOf, IsPairOf, exchanged, pair_of}
use Rattle.ledger.proofs.ChosenLiterals.{has_term, occurs_at}

abbrev Lists : Type 0
Lists = List (List Lit)

-- the pair of a place is that of its list
pub pair_at : (lists : Lists) (k : ℕ) → get_or (map pair_of lists) k None ≡ pair_of (get_or lists k [])
pair_at lists k = get_or-map pair_of lists k []

-- a list is set twice
pub set_twice : (lists : Lists) (k : ℕ) (a b : List Lit) → set (set lists k a) k b ≡ set lists k b
set_twice [] zero a b = refl
set_twice [] (suc k) a b = refl
set_twice (x ∷ xs) zero a b = refl
set_twice (x ∷ xs) (suc k) a b = ap (λ (ys : Lists). x ∷ ys) (set_twice xs k a b)

-- the first two of a list whose first two are set
pub pair_of_set : (ls : List Lit) (p : Pair) → 2 ≤ length ls → pair_of (set (set ls 0 p.first) 1 p.second) ≡ Some p
pair_of_set [] p h = absurd (omega (arith, h))
pair_of_set (l ∷ []) p h = absurd (omega (arith, h))
pair_of_set (l ∷ m ∷ ls) p h = refl

pub pair_of_exchanged : (ls : List Lit) (index : ℕ) (fallen : Lit) (p : Pair) → 2 ≤ length ls → pair_of (exchanged ls index fallen p) ≡ Some p
pair_of_exchanged ls index fallen p h = pair_of_set (set ls index fallen) p (omega (arith, h, length-set ls index fallen))

-- the first two of a list that has a pair
pub first_is : (ls : List Lit) (p : Pair) (d : Lit) → pair_of ls ≡ Some p → get_or ls 0 d ≡ p.first
first_is [] p d e = cc
first_is (l ∷ []) p d e = cc
first_is (l ∷ m ∷ ls) p d e = cc

pub second_is : (ls : List Lit) (p : Pair) (d : Lit) → pair_of ls ≡ Some p → get_or ls 1 d ≡ p.second
second_is [] p d e = cc
second_is (l ∷ []) p d e = cc
second_is (l ∷ m ∷ ls) p d e = cc

pub two_long : (ls : List Lit) (p : Pair) → pair_of ls ≡ Some p → 2 ≤ length ls
two_long [] p e = absurd (none e)
  where
    none : None ≡ Some p → ⊥
    none f = cc
two_long (l ∷ []) p e = absurd (none e)
  where
    none : None ≡ Some p → ⊥
    none f = cc
two_long (l ∷ m ∷ ls) p e = omega arith

-- what stands where in a list of which two literals were exchanged
at_first : (ls : List Lit) (index : ℕ) (fallen : Lit) (q : Pair) (d : Lit) → 2 ≤ length ls → get_or (exchanged ls index fallen q) 0 d ≡ q.first
at_first ls index fallen q d h = first_is (exchanged ls index fallen q) q d (pair_of_exchanged ls index fallen q h)

at_second : (ls : List Lit) (index : ℕ) (fallen : Lit) (q : Pair) (d : Lit) → 2 ≤ length ls → get_or (exchanged ls index fallen q) 1 d ≡ q.second
at_second ls index fallen q d h = second_is (exchanged ls index fallen q) q d (pair_of_exchanged ls index fallen q h)

at_index : (ls : List Lit) (index : ℕ) (fallen : Lit) (q : Pair) (d : Lit) → 2 ≤ index → index < length ls → get_or (exchanged ls index fallen q) index d ≡ fallen
at_index ls index fallen q d h low =
    get_or-set_other (set (set ls index fallen) 0 q.first) 1 index q.second d (λ e. omega (arith, h, e)) ∙ get_or-set_other (set ls index fallen) 0 index q.first d (λ e. omega (arith, h, e)) ∙ get_or-set_same ls index fallen d low

at_other : (ls : List Lit) (index k : ℕ) (fallen : Lit) (q : Pair) (d : Lit) → 2 ≤ k → (k ≡ index → ⊥) → get_or (exchanged ls index fallen q) k d ≡ get_or ls k d
at_other ls index k fallen q d h other =
    get_or-set_other (set (set ls index fallen) 0 q.first) 1 k q.second d (λ e. omega (arith, h, e)) ∙ get_or-set_other (set ls index fallen) 0 k q.first d (λ e. omega (arith, h, e)) ∙ get_or-set_other ls index k fallen d other

length_exchanged : (ls : List Lit) (index : ℕ) (fallen : Lit) (q : Pair) → length (exchanged ls index fallen q) ≡ length ls
length_exchanged ls index fallen q = length-set (set (set ls index fallen) 0 q.first) 1 q.second ∙ length-set (set ls index fallen) 0 q.first ∙ length-set ls index fallen

-- where a literal stands in a list: first, second, or behind
below_two : (k : ℕ) → k < 2 → (k ≡ 1 → ⊥) → k ≡ 0
below_two k h other = omega (arith, h, other, cases_eq k 1)

-- the same literals stand in the list then
pub still_listed : (n : NormalConstraint) (ls : List Lit) (p q : Pair) (fallen : Lit) (index : ℕ) → AreLiteralsOf n ls → pair_of ls ≡ Some p → 2 ≤ index → index < length ls → ((d : Lit) → get_or ls index d ≡ q.first) → IsBeside (Some p) fallen q.second
    → 0 < coefficient_of n q.first → 0 < coefficient_of n q.second → 0 < coefficient_of n fallen → AreLiteralsOf n (exchanged ls index fallen q)
still_listed n ls p q fallen index a pair rest below there beside one two three = record {
  all = λ l some. stands l (a.all l some);
  own = owns;
}
  where
    long : 2 ≤ length ls
    long = two_long ls p pair

    new : List Lit
    new = exchanged ls index fallen q

    count : length new ≡ length ls
    count = length_exchanged ls index fallen q

    is_second : (l : Lit) → q.second ≡ l → Contains new l
    is_second l e = (1, omega (arith, count, long), at_second ls index fallen q l long ∙ e)

    is_fallen : (l : Lit) → fallen ≡ l → Contains new l
    is_fallen l e = (index, omega (arith, count, below), at_index ls index fallen q l rest below ∙ e)

    by_first : (l : Lit) → p.first ≡ l → Contains new l
    by_first l e = elim beside [
      | inl b ↦ is_fallen l (sym b.0 ∙ e)
      | inr b ↦ is_second l (sym b.1 ∙ e)
    ]

    by_second : (l : Lit) → p.second ≡ l → Contains new l
    by_second l e = elim beside [
      | inl b ↦ is_second l (sym b.1 ∙ e)
      | inr b ↦ is_fallen l (sym b.0 ∙ e)
    ]

    stands : (l : Lit) → Contains ls l → Contains new l
    stands l (k, low, is) = elim (cases_lt k 2) [
      | inl early ↦ elim (cases_eq k 1) [
        | inl e ↦ by_second l (sym (second_is ls p l pair) ∙ ap (λ (j : ℕ). get_or ls j l) (sym e) ∙ is)
        | inr other ↦ by_first l (sym (first_is ls p l pair) ∙ ap (λ (j : ℕ). get_or ls j l) (sym (below_two k early other)) ∙ is)
      ]
      | inr late ↦ elim (cases_eq k index) [
        | inl e ↦ (0, omega (arith, count, long), at_first ls index fallen q l long ∙ sym (there l) ∙ ap (λ (j : ℕ). get_or ls j l) (sym e) ∙ is)
        | inr other ↦ (k, omega (arith, count, low), at_other ls index k fallen q l late other ∙ is)
      ]
    ]

    owns : (i : ℕ) (d : Lit) → i < length new → 0 < coefficient_of n (get_or new i d)
    owns i d low = elim (cases_lt i 2) [
      | inl early ↦ elim (cases_eq i 1) [
        | inl e ↦ subst (λ (l : Lit). 0 < coefficient_of n l) (sym (ap (λ (j : ℕ). get_or new j d) e ∙ at_second ls index fallen q d long)) two
        | inr other ↦ subst (λ (l : Lit). 0 < coefficient_of n l) (sym (ap (λ (j : ℕ). get_or new j d) (below_two i early other) ∙ at_first ls index fallen q d long)) one
      ]
      | inr late ↦ elim (cases_eq i index) [
        | inl e ↦ subst (λ (l : Lit). 0 < coefficient_of n l) (sym (ap (λ (j : ℕ). get_or new j d) e ∙ at_index ls index fallen q d rest below)) three
        | inr other ↦ subst (λ (l : Lit). 0 < coefficient_of n l) (sym (at_other ls index i fallen q d late other)) (a.own i d (omega (arith, count, low)))
      ]
    ]

-- a list is changed where it was set
changed_again : (A B C : Lists) (k : ℕ) (a : List Lit) (f : List Lit → List Lit) → k < length A → B ≡ set A k a → C ≡ set B k (f (get_or B k [])) → C ≡ set A k (f a)
changed_again A B C k a f low e g =
    g ∙ ap (λ (xs : Lists). set xs k (f (get_or xs k []))) e ∙ ap (λ (ls : List Lit). set (set A k a) k (f ls)) (get_or-set_same A k a [] low) ∙ set_twice A k a (f a)

-- three literals of a list are set
pub three_set : (A B C D : Lists) (k index : ℕ) (fallen : Lit) (q : Pair) → k < length A → B ≡ set A k (set (get_or A k []) index fallen) → C ≡ set B k (set (get_or B k []) 0 q.first) → D ≡ set C k (set (get_or C k []) 1 q.second) → D ≡ set A k (exchanged (get_or A k []) index fallen q)
three_set A B C D k index fallen q low e f g =
    let first : List Lit = set (get_or A k []) index fallen in
    let two : C ≡ set A k (set first 0 q.first) = changed_again A B C k first (λ (ls : List Lit). set ls 0 q.first) low e f in
    changed_again A C D k (set first 0 q.first) (λ (ls : List Lit). set ls 1 q.second) low two g

-- the pairs then
pub pairs_set : (A : Lists) (k : ℕ) (ls : List Lit) (o : Option Pair) → pair_of ls ≡ o → map pair_of (set A k ls) ≡ set (map pair_of A) k o
pairs_set A k ls o e = map-set pair_of A k ls ∙ ap (λ (p : Option Pair). set (map pair_of A) k p) e

pub pairs_taken : (A : Lists) → map pair_of (take (length A - 1) A) ≡ take (length (map pair_of A) - 1) (map pair_of A)
pairs_taken A = sym (take-map pair_of (length A - 1) A) ∙ ap (λ (n : ℕ). take (n - 1) (map pair_of A)) (sym (length-map A pair_of))

pub pairs_pushed : (A B : Lists) (ls : List Lit) (o : Option Pair) → B ≡ A ++ ls ∷ [] → pair_of ls ≡ o → map pair_of B ≡ map pair_of A ++ o ∷ []
pairs_pushed A B ls o e f = ap (map pair_of) e ∙ map_push pair_of A ls ∙ ap (λ (p : Option Pair). map pair_of A ++ p ∷ []) f

-- a list more behind the others
pub last_listed : (n : NormalConstraint) (A B : Lists) (ls : List Lit) (count : ℕ) → B ≡ A ++ ls ∷ [] → count ≡ length A → AreLiteralsOf n ls → AreLiteralsOf n (get_or B count [])
last_listed n A B ls count e many a = subst (AreLiteralsOf n) (sym (ap (λ (xs : Lists). get_or xs count []) e ∙ get_or_push A ls [] count (sym many))) a

pub others_listed : (A B : Lists) (ls : List Lit) (k : ℕ) → B ≡ A ++ ls ∷ [] → k < length A → get_or B k [] ≡ get_or A k []
others_listed A B ls k e low = ap (λ (xs : Lists). get_or xs k []) e ∙ get_or_append_left A (ls ∷ []) [] k low

-- a list that is made: the two that watch, and the literals of the first terms
pub record IsListing (n : NormalConstraint) (p : Pair) (count : ℕ) (ls : List Lit) : Type 0 where
  pub shape : (more : List Lit) × (ls ≡ p.first ∷ p.second ∷ more)
  pub own : (i : ℕ) (d : Lit) → i < length ls → 0 < coefficient_of n (get_or ls i d)
  pub so_far : (k : ℕ) (d : NormalTerm) → k < count → Contains ls (literal_of (get_or n.terms k d))

begun_own : (n : NormalConstraint) (p : Pair) → IsPairOf n p → (i : ℕ) (d : Lit) → i < 2 → 0 < coefficient_of n (get_or (p.first ∷ p.second ∷ []) i d)
begun_own n p of_it zero d low = of_it.first
begun_own n p of_it (suc zero) d low = of_it.second
begun_own n p of_it (suc (suc i)) d low = absurd (omega (arith, low))

pub begun : (n : NormalConstraint) (p : Pair) (ls : List Lit) → IsPairOf n p → ls ≡ p.first ∷ p.second ∷ [] → IsListing n p 0 ls
begun n p ls of_it e = subst (IsListing n p 0) (sym e) (record {
  shape = ([], refl);
  own = begun_own n p of_it;
  so_far = λ k d low. absurd (omega (arith, low));
})

pushed_own : (n : NormalConstraint) (ls : List Lit) (l : Lit) → ((i : ℕ) (d : Lit) → i < length ls → 0 < coefficient_of n (get_or ls i d)) → 0 < coefficient_of n l → (i : ℕ) (d : Lit) → i < length (ls ++ l ∷ []) → 0 < coefficient_of n (get_or (ls ++ l ∷ []) i d)
pushed_own n ls l own some i d low = elim (cases_lt i (length ls)) [
  | inl before ↦ subst (λ (m : Lit). 0 < coefficient_of n m) (sym (get_or_append_left ls (l ∷ []) d i before)) (own i d before)
  | inr behind ↦ subst (λ (m : Lit). 0 < coefficient_of n m) (sym (get_or_push ls l d i (omega (arith, low, behind, length-append ls (l ∷ []))))) some
]

contains_longer : (ls : List Lit) (l m : Lit) → Contains ls m → Contains (ls ++ l ∷ []) m
contains_longer ls l m (i, low, is) = (i, omega (arith, low, length-append ls (l ∷ [])), get_or_append_left ls (l ∷ []) m i low ∙ is)

contains_new : (ls : List Lit) (l : Lit) → Contains (ls ++ l ∷ []) l
contains_new ls l = (length ls, omega (arith, length-append ls (l ∷ [])), get_or_push ls l l (length ls) refl)

contains_pair : (p : Pair) (l : Lit) (more : List Lit) → IsOneOf p l → Contains (p.first ∷ p.second ∷ more) l
contains_pair p l more (inl e) = (0, omega arith, e)
contains_pair p l more (inr e) = (1, omega arith, e)

-- one term more
pub listed_next : (n : NormalConstraint) (p : Pair) (index : ℕ) (old new : List Lit) (t : NormalTerm) → Rises 0 n.terms → index < length n.terms → t ≡ get_or n.terms index t → IsListing n p index old → ((new ≡ old) × IsOneOf p (literal_of t)) ⊎ (new ≡ old ++ literal_of t ∷ [])
    → IsListing n p (index + 1) new
listed_next n p index old new t rises low is i more = record { shape = shape more; own = own more; so_far = so_far more }
  where
    l : Lit
    l = literal_of t

    occurs : 0 < coefficient_of n l
    occurs = occurs_at n index t rises low is

    One : Type 0
    One = ((new ≡ old) × IsOneOf p l) ⊎ (new ≡ old ++ l ∷ [])

    shape : One → (more : List Lit) × (new ≡ p.first ∷ p.second ∷ more)
    shape (inl e) = (i.shape.0, e.0 ∙ i.shape.1)
    shape (inr e) = (i.shape.0 ++ l ∷ [], e ∙ ap (λ (xs : List Lit). xs ++ l ∷ []) i.shape.1)

    own : One → (k : ℕ) (d : Lit) → k < length new → 0 < coefficient_of n (get_or new k d)
    own (inl e) = subst (λ (xs : List Lit). (k : ℕ) (d : Lit) → k < length xs → 0 < coefficient_of n (get_or xs k d)) (sym e.0) i.own
    own (inr e) = subst (λ (xs : List Lit). (k : ℕ) (d : Lit) → k < length xs → 0 < coefficient_of n (get_or xs k d)) (sym e) (pushed_own n old l i.own occurs)

    here : One → Contains new l
    here (inl e) = subst (λ (xs : List Lit). Contains xs l) (sym (e.0 ∙ i.shape.1)) (contains_pair p l i.shape.0 e.1)
    here (inr e) = subst (λ (xs : List Lit). Contains xs l) (sym e) (contains_new old l)

    still : One → (m : Lit) → Contains old m → Contains new m
    still (inl e) m c = subst (λ (xs : List Lit). Contains xs m) (sym e.0) c
    still (inr e) m c = subst (λ (xs : List Lit). Contains xs m) (sym e) (contains_longer old l m c)

    so_far : One → (k : ℕ) (d : NormalTerm) → k < index + 1 → Contains new (literal_of (get_or n.terms k d))
    so_far one k d h = elim (cases_eq k index) [
      | inl e ↦ subst (λ (m : Lit). Contains new m) (sym (ap (λ (j : ℕ). literal_of (get_or n.terms j d)) e ∙ ap literal_of (get_or_default n.terms index d t low ∙ sym is))) (here one)
      | inr other ↦ still one (literal_of (get_or n.terms k d)) (i.so_far k d (omega (arith, h, other)))
    ]

-- all terms
pub all_listed : (n : NormalConstraint) (p : Pair) (count : ℕ) (ls : List Lit) → IsListing n p count ls → length n.terms ≤ count → AreLiteralsOf n ls
all_listed n p count ls i all = record {
  all = λ l some.
      let at = has_term n l some in
      let d : NormalTerm = record { coef = 0; var = l.var; negated = l.negated } in
      subst (λ (m : Lit). Contains ls m) (at.2 d) (i.so_far at.0 d (omega (arith, at.1, all)));
  own = i.own;
}

pub pair_listed : (n : NormalConstraint) (p : Pair) (count : ℕ) (ls : List Lit) → IsListing n p count ls → pair_of ls ≡ Some p
pair_listed n p count ls i = ap pair_of i.shape.1

-- a place that has a pair has a list
pub list_there : (lists : Lists) (k : ℕ) (p : Pair) → pair_of (get_or lists k []) ≡ Some p → k < length lists
list_there lists k p e = elim (cases_lt k (length lists)) [
  | inl low ↦ low
  | inr high ↦ absurd (none_some (sym (ap pair_of (get_or_past lists k [] high)) ∙ e))
]
  where
    none_some : None ≡ Some p → ⊥
    none_some f = cc

-- the same, behind what was there before
pub grown_next : (n : NormalConstraint) (p : Pair) (index : ℕ) (before old new ls : List Lit) (t : NormalTerm) → Rises 0 n.terms → index < length n.terms → t ≡ get_or n.terms index t → old ≡ before ++ ls → IsListing n p index ls
    → ((new ≡ old) × IsOneOf p (literal_of t)) ⊎ (new ≡ old ++ literal_of t ∷ []) → (more : List Lit) × (new ≡ before ++ more) × IsListing n p (index + 1) more
grown_next n p index before old new ls t rises low is e i (inl one) = (ls, one.0 ∙ e, listed_next n p index ls ls t rises low is i (inl (refl, one.1)))
grown_next n p index before old new ls t rises low is e i (inr more) = (
  ls ++ literal_of t ∷ [],
  more ∙ ap (λ (xs : List Lit). xs ++ literal_of t ∷ []) e ∙ append_assoc before ls (literal_of t ∷ []),
  listed_next n p index ls (ls ++ literal_of t ∷ []) t rises low is i (inr refl),
)

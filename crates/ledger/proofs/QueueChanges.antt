-- The queue of places that wait, one more and one fewer.
use Rattle.std.proofs.Common.{◌≡◌, ℕ, zero, suc, ◌+◌, ◌-◌, ◌<◌, ◌≤◌, inl, inr, Bool, true, false, cond, Contains, All, List, Option, None, Some, IfSome, [], ◌∷◌, ◌++◌, length, get_or, set, take, refl, ap, sym, subst, ◌∙◌, arith, length-append}
use Rattle.std.specs.List.{count_by}
use Rattle.std.proofs.lemmas.Bool.{false≢true, cases_eq}
use Rattle.std.proofs.lemmas.List.{get_or-take, length-set, length-take-le, get_or-set_same, get_or-set_other, get_or_append_left}
use Rattle.std.proofs.Math.Seq.{get_or-append_seam, take-length}
use Rattle.std.proofs.lemmas.List.Elements.{All-contains, All-push, All-tail, All-head, All-weaker, Contains-append_left, Contains-push}
use Rattle.std.proofs.lemmas.List.Sums.{count_by_more_no, sum_by-set, sum_by_push, count_by-le-length}
use Rattle.ledger.specs.Waiting.{IsQueue, with_first}

abbrev weight : Bool → ℕ
weight b = cond b 1 0

counted_set : (waiting : List Bool) (k : ℕ) (b c : Bool) → k < length waiting → get_or waiting k false ≡ c → count_by (λ b. b) (set waiting k b) + cond c 1 0 ≡ count_by (λ b. b) waiting + cond b 1 0
counted_set waiting k b c h e = omega (arith, sum_by-set (λ (x : Bool). cond x 1 0) waiting k b false h, ap {B = ℕ} (λ (x : Bool). cond x 1 0) e)

at_most_one : (c : Bool) → cond c 1 0 ≤ 1
at_most_one true = omega arith
at_most_one false = omega arith

-- one place more has room
pub room : (places : List ℕ) (waiting : List Bool) (k : ℕ) → IsQueue places waiting → k < length waiting → get_or waiting k false ≡ false → length places < length waiting
room places waiting k q h e = omega (arith, q.few, counted_set waiting k true false h e, count_by-le-length (λ (b : Bool). b) (set waiting k true), length-set waiting k true)

below_set : (waiting : List Bool) (k : ℕ) (b : Bool) (places : List ℕ) → All (λ j. j < length waiting) places → All (λ j. j < length (set waiting k b)) places
below_set waiting k b places all = All-weaker (λ j. j < length waiting) (λ j. j < length (set waiting k b)) (λ j h. omega (arith, h, length-set waiting k b)) places all

pub pushed : (places : List ℕ) (waiting : List Bool) (k : ℕ) → IsQueue places waiting → k < length waiting → get_or waiting k false ≡ false → IsQueue (places ++ k ∷ []) (set waiting k true)
pushed places waiting k q h e = record {
  below = All-push (λ j. j < length (set waiting k true)) places k (below_set waiting k true places q.below) (omega (arith, h, length-set waiting k true));
  there = λ j low flag. elim (cases_eq j k) [
    | inl same ↦ subst (λ (x : ℕ). Contains (places ++ k ∷ []) x) (sym same) (Contains-push places k)
    | inr other ↦ Contains-append_left places (k ∷ []) j (q.there j (omega (arith, low, length-set waiting k true)) (sym (get_or-set_other waiting k j true false other) ∙ flag))
  ];
  few = omega (arith, q.few, counted_set waiting k true false h e, length-append places (k ∷ []));
}

contains_rest : (k j : ℕ) (rest : List ℕ) → (j ≡ k → ⊥) → Contains (k ∷ rest) j → Contains rest j
contains_rest k j rest other (zero, low, e) = absurd (other (sym e))
contains_rest k j rest other (suc i, low, e) = (i, omega (arith, low), e)

pub taken : (places rest : List ℕ) (waiting : List Bool) (k : ℕ) → IsQueue places waiting → places ≡ k ∷ rest → IsQueue rest (set waiting k false)
taken places rest waiting k q e =
    let all : All (λ j. j < length waiting) (k ∷ rest) = subst (λ (xs : List ℕ). All (λ j. j < length waiting) xs) e q.below in
    let h : k < length waiting = All-head (λ j. j < length waiting) k rest all in
    record {
      below = below_set waiting k false rest (All-tail (λ j. j < length waiting) k rest all);
      there = λ j low flag. elim (cases_eq j k) [
        | inl same ↦ absurd (false≢true (sym (ap (λ (x : ℕ). get_or (set waiting k false) x false) same ∙ get_or-set_same waiting k false false h) ∙ flag))
        | inr other ↦ contains_rest k j rest other (subst (λ (xs : List ℕ). Contains xs j) e (q.there j (omega (arith, low, length-set waiting k false)) (sym (get_or-set_other waiting k j false false other) ∙ flag)))
      ];
      few = omega (arith, q.few, counted_set waiting k false (get_or waiting k false) h refl, at_most_one (get_or waiting k false), ap (length {A = ℕ}) e);
    }

-- one place more, which does not wait
pub grown : (places : List ℕ) (waiting : List Bool) → IsQueue places waiting → IsQueue places (waiting ++ false ∷ [])
grown places waiting q = record {
  below = All-weaker (λ j. j < length waiting) (λ j. j < length (waiting ++ false ∷ [])) (λ j h. omega (arith, h, length-append waiting (false ∷ []))) places q.below;
  there = λ j low flag. elim (cases_eq j (length waiting)) [
    | inl e ↦ absurd (false≢true (sym (ap (λ (i : ℕ). get_or (waiting ++ false ∷ []) i false) e ∙ get_or-append_seam waiting false [] false) ∙ flag))
    | inr other ↦
        let below : j < length waiting = omega (arith, low, other, length-append waiting (false ∷ [])) in
        q.there j below (sym (get_or_append_left waiting (false ∷ []) false j below) ∙ flag)
  ];
  few = omega (arith, q.few, sum_by_push weight waiting false);
}

last_unset : (places : List ℕ) (waiting : List Bool) (m : ℕ) (b : Bool) → IsQueue places waiting → All (λ k. k + 1 < length waiting) places → m + 1 ≡ length waiting → get_or waiting m false ≡ b → b ≡ false
last_unset places waiting m false q low e is = refl
last_unset places waiting m true q low e is = absurd (omega (arith, e, All-contains (λ k. k + 1 < length waiting) places m low (q.there m (omega (arith, e)) is)))

-- one place fewer, which did not wait
pub shrunk : (places : List ℕ) (waiting : List Bool) → IsQueue places waiting → All (λ k. k + 1 < length waiting) places → IsQueue places (take (length waiting - 1) waiting)
shrunk places waiting q low = elim (cases_eq (length waiting) 0) [
  | inl none ↦ subst (IsQueue places) (sym (ap (λ (n : ℕ). take n waiting) (omega (arith, none)) ∙ take-length waiting)) q
  | inr some ↦
      let m : ℕ = length waiting - 1 in
      let all : m + 1 ≡ length waiting = omega (arith, some) in
      let long : length (take m waiting) ≡ m = length-take-le m waiting (omega arith) in
      let unset : get_or waiting m false ≡ false = last_unset places waiting m (get_or waiting m false) q low all refl in
      let whole : take (m + 1) waiting ≡ waiting = ap (λ (n : ℕ). take n waiting) all ∙ take-length waiting in
      let counted : count_by (λ b. b) waiting ≡ count_by (λ b. b) (take m waiting) = ap (count_by (λ (b : Bool). b)) (sym whole) ∙ count_by_more_no (λ (b : Bool). b) waiting m false (omega (arith, all)) unset in
      record {
        below = All-weaker (λ k. k + 1 < length waiting) (λ k. k < length (take m waiting)) (λ k h. omega (arith, h, long)) places low;
        there = λ j under flag. q.there j (omega (arith, under, long)) (sym (get_or-take m waiting j false (omega (arith, under, long))) ∙ flag);
        few = omega (arith, q.few, counted);
      }
]

-- what waits behind the first one, and the first one, where none of them is the last
pub before_last : (first : Option ℕ) (places : List ℕ) (n : ℕ) → All (λ k. k + 1 < n) (with_first first places) → All (λ k. k + 1 < n) places × IfSome first (λ k. k < n - 1)
before_last None places n all = (all, tt)
before_last (Some k) places n all =
    let low = All-head (λ k. k + 1 < n) k places all in
    (All-tail (λ k. k + 1 < n) k places all, omega (arith, low))

-- a place that comes first is below a greater number, too
pub first_below : (first : Option ℕ) (m n : ℕ) → m ≤ n → IfSome first (λ k. k < m) → IfSome first (λ k. k < n)
first_below None m n h low = tt
first_below (Some k) m n h low = omega (arith, h, low)

-- one that waits behind the first one waits
pub waits_behind : (first : Option ℕ) (places : List ℕ) (k : ℕ) → Contains places k → Contains (with_first first places) k
waits_behind None places k h = h
waits_behind (Some j) places k (i, low, e) = (suc i, omega (arith, low), e)

-- where more wait behind the first one, more wait
pub more_behind : (first : Option ℕ) (places more : List ℕ) → ((k : ℕ) → Contains places k → Contains more k) → (k : ℕ) → Contains (with_first first places) k → Contains (with_first first more) k
more_behind None places more kept k h = kept k h
more_behind (Some j) places more kept k (zero, low, e) = (zero, omega arith, e)
more_behind (Some j) places more kept k (suc i, low, e) = let r = kept k (i, omega (arith, low), e) in (suc r.0, omega (arith, r.1), r.2)

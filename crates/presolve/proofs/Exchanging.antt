-- Terms of which two variables have changed places, in rising order again.
use Rattle.std.proofs.Common.{◌≡◌, ℕ, ◌+◌, ◌<◌, ◌≤◌, ◌==◌, if◌then◌else◌, Bool, true, false, cond, List, [], ◌∷◌, ◌++◌, take, length, get_or, All, refl, sym, ap, ◌∙◌, arith}
use Rattle.std.specs.List.Sorted.{IsNonDecreasingBy, IsPermutation}
use Rattle.std.proofs.lemmas.Bool.Decides.{nat_tests}
use Rattle.std.proofs.lemmas.List.{map-append, take_more}
use Rattle.std.proofs.lemmas.List.Elements.{All-head, All-tail, All-cons, All-nil}
use Rattle.std.proofs.lemmas.List.Recursion.{is_sum_by}
use Rattle.std.proofs.lemmas.List.Sorted.{All-permutation, IsNonDecreasingBy-drop, sum_by-IsPermutation}
use Rattle.normal_form.specs.declared.term.NormalTerm.{NormalTerm}
use Rattle.normal_form.specs.Normal.{Literals, Rises, only, sum_over}
use Rattle.presolve.specs.Forms.{term_exchanged, terms_exchanged}
use Rattle.presolve.specs.Swapping.{exchanged}

-- one more term exchanged
pub exchanged_more : (x y : ℕ) (ts : List NormalTerm) (i : ℕ) (d : NormalTerm) → i < length ts → terms_exchanged x y (take (i + 1) ts) ≡ terms_exchanged x y (take i ts) ++ term_exchanged x y (get_or ts i d) ∷ []
exchanged_more x y ts i d h = ap (terms_exchanged x y) (take_more ts i d h) ∙ map-append (term_exchanged x y) (take i ts) (get_or ts i d ∷ [])

-- one number is another one's place exactly where that is its own
pub places_meet : (x y a v : ℕ) → (v == exchanged x y a) ≡ (exchanged x y v == a)
places_meet x y a v = by (a == x) (a == y) (v == x) (v == y) refl refl refl refl
  where
    by : (p q r s : Bool) → p ≡ (a == x) → q ≡ (a == y) → r ≡ (v == x) → s ≡ (v == y) → (v == (if p then y else if q then x else a)) ≡ ((if r then y else if s then x else v) == a)
    by true q true s e f g h = grind (arith, nat_tests)
    by true q false true e f g h = grind (arith, nat_tests)
    by true q false false e f g h = grind (arith, nat_tests)
    by false true true s e f g h = grind (arith, nat_tests)
    by false true false true e f g h = grind (arith, nat_tests)
    by false true false false e f g h = grind (arith, nat_tests)
    by false false true s e f g h = grind (arith, nat_tests)
    by false false false true e f g h = grind (arith, nat_tests)
    by false false false false e f g h = grind (arith, nat_tests)

-- what the exchanged terms have at a literal is what the terms have at the literal in whose place it stands
pub exchanged_sum : (x y v : ℕ) (s : Bool) (ts : List NormalTerm) → sum_over (only v s) (terms_exchanged x y ts) ≡ sum_over (only (exchanged x y v) s) ts
exchanged_sum x y v s [] = refl
exchanged_sum x y v s (t ∷ ts) = grind (arith, places_meet x y v (t.var.0), places_meet x y (t.var.0) v, exchanged_sum x y v s ts)

-- sums do not depend on the order
pub same_sum : (set : Literals) (ts us : List NormalTerm) → IsPermutation ts us → sum_over set us ≡ sum_over set ts
same_sum set ts us p =
    is_sum_by (sum_over set) (λ t. cond (set (t.var.0) t.negated) t.coef 0) refl (λ _ _. refl) us
    ∙ sum_by-IsPermutation (λ t. cond (set (t.var.0) t.negated) t.coef 0) ts us p
    ∙ sym (is_sum_by (sum_over set) (λ t. cond (set (t.var.0) t.negated) t.coef 0) refl (λ _ _. refl) ts)

-- how many terms have a variable
abbrev one_at : ℕ → NormalTerm → ℕ
one_at v t = cond (t.var.0 == v) 1 0

abbrev count_at : ℕ → List NormalTerm → ℕ
count_at v [] = 0
count_at v (t ∷ ts) = one_at v t + count_at v ts

same_count : (v : ℕ) (ts us : List NormalTerm) → IsPermutation ts us → count_at v us ≡ count_at v ts
same_count v ts us p = is_sum_by (count_at v) (one_at v) refl (λ _ _. refl) us ∙ sum_by-IsPermutation (one_at v) ts us p ∙ sym (is_sum_by (count_at v) (one_at v) refl (λ _ _. refl) ts)

exchanged_count : (x y v : ℕ) (ts : List NormalTerm) → count_at v (terms_exchanged x y ts) ≡ count_at (exchanged x y v) ts
exchanged_count x y v [] = refl
exchanged_count x y v (t ∷ ts) = grind (arith, places_meet x y (t.var.0) v, nat_tests, exchanged_count x y v ts)

-- none has a variable below the first, and so no variable stands twice
none_below : (low v : ℕ) (ts : List NormalTerm) → Rises low ts → v < low → count_at v ts ≡ 0
none_below low v [] r h = refl
none_below low v (t ∷ ts) r h =
    let rest = none_below (t.var.0 + 1) v ts r.2 (omega (arith, r.0, h)) in
    let here : one_at v t ≡ 0 = grind (arith, nat_tests, r.0, h) in
    omega (arith, rest, here)

one_at_most : (b : Bool) → cond b 1 0 ≤ 1
one_at_most true = omega arith
one_at_most false = omega arith

each_once : (low v : ℕ) (ts : List NormalTerm) → Rises low ts → count_at v ts ≤ 1
each_once low v [] r = omega arith
each_once low v (t ∷ ts) r = by (t.var.0 == v) refl (each_once (t.var.0 + 1) v ts r.2)
  where
    by : (b : Bool) → b ≡ (t.var.0 == v) → count_at v ts ≤ 1 → cond b 1 0 + count_at v ts ≤ 1
    by true e rest = let same : t.var.0 ≡ v = grind (arith, nat_tests) in omega (arith, none_below (t.var.0 + 1) v ts r.2 (omega (arith, same)))
    by false e rest = omega (arith, rest)

-- terms in order, of which no two have one variable, rise strictly
rising : (low : ℕ) (ts : List NormalTerm) → All (λ t. 0 < t.coef) ts → IsNonDecreasingBy (λ t. t.var.0) ts → ((v : ℕ) → count_at v ts ≤ 1) → ((t : NormalTerm) → (0 < length ts) → low ≤ (get_or ts 0 t).var.0) → Rises low ts
rising low [] above order once first = tt
rising low (t ∷ ts) above order once first =
    (first t (omega arith), All-head (λ t. 0 < t.coef) t ts above, rising (t.var.0 + 1) ts (All-tail (λ t. 0 < t.coef) t ts above) (IsNonDecreasingBy-drop (λ t. t.var.0) 1 (t ∷ ts) order) rest (next ts order once))
  where
    rest : (v : ℕ) → count_at v ts ≤ 1
    rest v = omega (arith, once v)

    next : (us : List NormalTerm) → IsNonDecreasingBy (λ t. t.var.0) (t ∷ us) → ((v : ℕ) → count_at v (t ∷ us) ≤ 1) → (d : NormalTerm) → (0 < length us) → t.var.0 + 1 ≤ (get_or us 0 d).var.0
    next [] o c d h = absurd (omega (arith, h))
    next (u ∷ us) o c d h =
        let le : t.var.0 ≤ u.var.0 = o 0 1 d (omega arith) (omega arith) in
        let few = c (t.var.0) in
        by (u.var.0 == t.var.0) refl few le
      where
        by : (b : Bool) → b ≡ (u.var.0 == t.var.0) → one_at (t.var.0) t + (cond b 1 0 + count_at (t.var.0) us) ≤ 1 → t.var.0 ≤ u.var.0 → t.var.0 + 1 ≤ u.var.0
        by true e few le = let here : one_at (t.var.0) t ≡ 1 = grind (arith, nat_tests) in absurd (omega (arith, few, here))
        by false e few le = grind (arith, nat_tests)

above_zero : (low : ℕ) (x y : ℕ) (ts : List NormalTerm) → Rises low ts → All (λ t. 0 < t.coef) (terms_exchanged x y ts)
above_zero low x y [] r = All-nil (λ t. 0 < t.coef)
above_zero low x y (t ∷ ts) r = All-cons (λ t. 0 < t.coef) (term_exchanged x y t) (terms_exchanged x y ts) r.1 (above_zero (t.var.0 + 1) x y ts r.2)

pub exchanged_rises : (x y : ℕ) (ts us : List NormalTerm) → Rises 0 ts → IsPermutation (terms_exchanged x y ts) us → IsNonDecreasingBy (λ t. t.var.0) us → Rises 0 us
exchanged_rises x y ts us r p order =
    rising 0 us (All-permutation (λ t. 0 < t.coef) (terms_exchanged x y ts) us p (above_zero 0 x y ts r)) order
    (λ v. omega (arith, same_count v (terms_exchanged x y ts) us p, exchanged_count x y v ts, each_once 0 (exchanged x y v) ts r)) (λ t h. omega arith)

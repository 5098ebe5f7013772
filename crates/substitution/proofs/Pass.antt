-- One pass over two lists of terms in order of their variables.
use Rattle.std.proofs.Common.{◌≡◌, ◌⊎◌, inl, inr, ℕ, zero, suc, ◌+◌, ◌-◌, ◌<◌, ◌≤◌, max, Bool, true, false, not, cond, ◌==◌, ◌&&◌, List, [], ◌∷◌, ◌++◌, length, get_or, take, drop, refl, ap, sym, subst, ◌∙◌, arith}
use Rattle.std.proofs.lemmas.Bool.{false≢true}
use mathlib.Core.Bool.{beq}
use Rattle.std.proofs.lemmas.Bool.Decides.{nat_tests}
use Rattle.std.proofs.lemmas.List.{take_more}
use Rattle.normal_form.specs.declared.term.NormalTerm.{NormalTerm}
use Rattle.normal_form.specs.Normal.{NormalConstraint, sum_over, only, same_sign, coefficient, total, Rises, variable_bound}
use Rattle.normal_form.proofs.OneList.{absent}
use Rattle.normal_form.proofs.Sums.{bound_push, bound_take}
use Rattle.substitution.proofs.Excess.{term_excess}

pub rises_from : (low variable : ℕ) (ts : List NormalTerm) (i : ℕ) (d : NormalTerm) → Rises low ts → (i < length ts → variable ≤ (get_or ts i d).var.0) → Rises variable (drop i ts)
rises_from low variable [] zero d r h = tt
rises_from low variable [] (suc i) d r h = tt
rises_from low variable (t ∷ ts) zero d r h = (h (omega arith), r.1, r.2)
rises_from low variable (t ∷ ts) (suc i) d r h = rises_from (t.var.0 + 1) variable ts i d r.2 (λ k. h (omega (arith, k)))

-- a term of a lower variable counts for nothing
lower : (x v c : ℕ) (b : Bool) → x < v → cond ((x == v) && b) c 0 ≡ 0
lower x v c b h = grind (arith, nat_tests)

pub passed_more : (ts : List NormalTerm) (i : ℕ) (d : NormalTerm) → i < length ts → (v : ℕ) (s : Bool) → (get_or ts i d).var.0 < v → sum_over (only v s) (drop i ts) ≡ sum_over (only v s) (drop (suc i) ts)
passed_more [] i d h v s k = absurd (omega (arith, h))
passed_more (t ∷ ts) zero d h v s k = omega (arith, lower (t.var.0) v t.coef (same_sign s t.negated) k)
passed_more (t ∷ ts) (suc i) d h v s k = passed_more ts i d (omega (arith, h)) v s k

-- the coefficient of the literal that may stand first
head_only : (u : NormalTerm) (us : List NormalTerm) (v : ℕ) (s : Bool) → Rises v (u ∷ us) → sum_over (only v s) (u ∷ us) ≡ cond ((u.var.0 == v) && same_sign s u.negated) u.coef 0
head_only u us v s r = omega (arith, absent (u.var.0 + 1) us r.2 v s (omega (arith, r.0)))

pub coefficient_at : (ts : List NormalTerm) (i : ℕ) (d : NormalTerm) → i < length ts → (v : ℕ) (s : Bool) → Rises v (drop i ts) → sum_over (only v s) (drop i ts) ≡ cond (((get_or ts i d).var.0 == v) && same_sign s (get_or ts i d).negated) (get_or ts i d).coef 0
coefficient_at [] i d h v s r = absurd (omega (arith, h))
coefficient_at (t ∷ ts) zero d h v s r = head_only t ts v s r
coefficient_at (t ∷ ts) (suc i) d h v s r = coefficient_at ts i d (omega (arith, h)) v s r

pub nothing_from : (ts : List NormalTerm) (i : ℕ) → length ts ≤ i → drop i ts ≡ []
nothing_from [] zero h = refl
nothing_from [] (suc i) h = refl
nothing_from (t ∷ ts) zero h = absurd (omega (arith, h))
nothing_from (t ∷ ts) (suc i) h = nothing_from ts i (omega (arith, h))

excess_push : (ts : List NormalTerm) (t : NormalTerm) (n : NormalConstraint) → term_excess (ts ++ t ∷ []) n ≡ term_excess ts n + (t.coef - coefficient n (t.var.0) t.negated)
excess_push [] t n = omega arith
excess_push (x ∷ xs) t n = omega (arith, excess_push xs t n)

pub excess_more : (ts : List NormalTerm) (i : ℕ) (d : NormalTerm) (n : NormalConstraint) → i < length ts → term_excess (take (i + 1) ts) n ≡ term_excess (take i ts) n + ((get_or ts i d).coef - coefficient n ((get_or ts i d).var.0) (get_or ts i d).negated)
excess_more ts i d n h = ap (λ (xs : List NormalTerm). term_excess xs n) (take_more ts i d h) ∙ excess_push (take i ts) (get_or ts i d) n

pub excess_total : (i : ℕ) (ts : List NormalTerm) (n : NormalConstraint) → term_excess (take i ts) n ≤ total ts
excess_total zero ts n = omega arith
excess_total (suc i) [] n = omega arith
excess_total (suc i) (t ∷ ts) n = omega (arith, excess_total i ts n)

pub excess_first : (i : ℕ) (ts : List NormalTerm) (n : NormalConstraint) → term_excess (take i ts) n ≤ term_excess ts n
excess_first zero ts n = omega arith
excess_first (suc i) [] n = omega arith
excess_first (suc i) (t ∷ ts) n = omega (arith, excess_first i ts n)

-- all terms of lower variables than any that comes are before a place
abbrev pub IsAhead : List NormalTerm → ℕ → ℕ → List NormalTerm → Type 0
IsAhead es i place ns = (v : ℕ) (s : Bool) → variable_bound (take i es) ≤ v → sum_over (only v s) ns ≡ sum_over (only v s) (drop place ns)

bound_more : (es : List NormalTerm) (i : ℕ) (d : NormalTerm) → i < length es → variable_bound (take (i + 1) es) ≡ max (variable_bound (take i es)) ((get_or es i d).var.0 + 1)
bound_more es i d h = ap variable_bound (take_more es i d h) ∙ bound_push (take i es) (get_or es i d)

pub ahead_more : (es : List NormalTerm) (i : ℕ) (d : NormalTerm) (from place : ℕ) (ns : List NormalTerm) → i < length es → IsAhead es i from ns → ((v : ℕ) (s : Bool) → (get_or es i d).var.0 ≤ v → sum_over (only v s) (drop from ns) ≡ sum_over (only v s) (drop place ns)) → IsAhead es (i + 1) place ns
ahead_more es i d from place ns h a p v s k =
    a v s (omega (arith, bound_more es i d h, k)) ∙ p v s (omega (arith, bound_more es i d h, k))

pub coefficient_ahead : (es : List NormalTerm) (i : ℕ) (d : NormalTerm) (from place : ℕ) (ns : List NormalTerm) → Rises 0 es → i < length es → IsAhead es i from ns → ((v : ℕ) (s : Bool) → (get_or es i d).var.0 ≤ v → sum_over (only v s) (drop from ns) ≡ sum_over (only v s) (drop place ns)) → sum_over (only ((get_or es i d).var.0) (get_or es i d).negated) ns ≡ sum_over (only ((get_or es i d).var.0) (get_or es i d).negated) (drop place ns)
coefficient_ahead es i d from place ns r h a p =
    let t = get_or es i d in
    a (t.var.0) t.negated (bound_take 0 es i d r h) ∙ p (t.var.0) t.negated (omega arith)

-- what the code reads at a place
count_other : (x v c : ℕ) (s n : Bool) → (x ≡ v → ⊥) ⊎ (n ≡ not s) → 0 ≡ cond ((x == v) && same_sign s n) c 0
count_other x v c s n (inl h) = grind (arith, nat_tests)
count_other x v c true true (inr h) = absurd (false≢true (sym h))
count_other x v c true false (inr h) = grind (arith, nat_tests)
count_other x v c false true (inr h) = grind (arith, nat_tests)
count_other x v c false false (inr h) = absurd (false≢true h)

count_same : (x v c : ℕ) (s n : Bool) → x ≡ v → n ≡ s → c ≡ cond ((x == v) && same_sign s n) c 0
count_same x v c true true e h = grind (arith, nat_tests)
count_same x v c true false e h = absurd (false≢true h)
count_same x v c false true e h = absurd (false≢true (sym h))
count_same x v c false false e h = grind (arith, nat_tests)

pub read_other : (ts : List NormalTerm) (i : ℕ) (u : NormalTerm) → i < length ts → u ≡ get_or ts i u → (v : ℕ) (s : Bool) → Rises v (drop i ts) → (u.var.0 ≡ v → ⊥) ⊎ (u.negated ≡ not s) → 0 ≡ sum_over (only v s) (drop i ts)
read_other ts i u h is v s r apart =
    let counts = count_other (u.var.0) v u.coef s u.negated apart in
    let here = coefficient_at ts i u h v s r in
    counts ∙ ap (λ (t : NormalTerm). cond ((t.var.0 == v) && same_sign s t.negated) t.coef 0) is ∙ sym here

pub read_same : (ts : List NormalTerm) (i : ℕ) (u : NormalTerm) → i < length ts → u ≡ get_or ts i u → (v : ℕ) (s : Bool) → Rises v (drop i ts) → u.var.0 ≡ v → u.negated ≡ s → u.coef ≡ sum_over (only v s) (drop i ts)
read_same ts i u h is v s r e f =
    let counts = count_same (u.var.0) v u.coef s u.negated e f in
    let here = coefficient_at ts i u h v s r in
    counts ∙ ap (λ (t : NormalTerm). cond ((t.var.0 == v) && same_sign s t.negated) t.coef 0) is ∙ sym here

pub read_nothing : (ts : List NormalTerm) (i : ℕ) (v : ℕ) (s : Bool) → length ts ≤ i → 0 ≡ sum_over (only v s) (drop i ts)
read_nothing ts i v s h = sym (ap (sum_over (only v s)) (nothing_from ts i h))

differing : (b d : Bool) → not (beq b d) ≡ true → b ≡ not d
differing true true h = absurd (false≢true h)
differing true false h = refl
differing false true h = refl
differing false false h = absurd (false≢true h)

alike : (b d : Bool) → not (beq b d) ≡ false → b ≡ d
alike true true h = refl
alike true false h = absurd (false≢true (sym h))
alike false true h = absurd (false≢true (sym h))
alike false false h = refl

pub read_opposite : (ts : List NormalTerm) (i : ℕ) (u : NormalTerm) → i < length ts → u ≡ get_or ts i u → (v : ℕ) (s : Bool) → Rises v (drop i ts) → not (beq u.negated s) ≡ true → 0 ≡ sum_over (only v s) (drop i ts)
read_opposite ts i u h is v s r d = read_other ts i u h is v s r (inr (differing u.negated s d))

pub read_own : (ts : List NormalTerm) (i : ℕ) (u : NormalTerm) → i < length ts → u ≡ get_or ts i u → (v : ℕ) (s : Bool) → Rises v (drop i ts) → u.var.0 ≡ v → not (beq u.negated s) ≡ false → u.coef ≡ sum_over (only v s) (drop i ts)
read_own ts i u h is v s r e d = read_same ts i u h is v s r e (alike u.negated s d)

pub rises_read : (variable : ℕ) (ts : List NormalTerm) (i : ℕ) (u : NormalTerm) → Rises 0 ts → u ≡ get_or ts i u → variable ≤ u.var.0 → Rises variable (drop i ts)
rises_read variable ts i u r is h =
    let same : u.var.0 ≡ (get_or ts i u).var.0 = ap (λ (t : NormalTerm). t.var.0) is in
    rises_from 0 variable ts i u r (λ _. omega (arith, h, same))

-- one turn of the pass: the term of a place is read, the terms of lower variables are passed
abbrev Passes : List NormalTerm → NormalConstraint → ℕ → ℕ → ℕ → ℕ → NormalTerm → Type 0
Passes es n i from place now u =
    (c step : ℕ) → ((v : ℕ) (s : Bool) → u.var.0 ≤ v → sum_over (only v s) (drop from n.terms) ≡ sum_over (only v s) (drop place n.terms))
    → c ≡ sum_over (only (u.var.0) u.negated) (drop place n.terms) → step ≡ u.coef - c
    → (now + step ≡ term_excess (take (i + 1) es) n) × IsAhead es (i + 1) place n.terms

pass_at : (es : List NormalTerm) (n : NormalConstraint) (i from place now : ℕ) (d : NormalTerm) → Rises 0 es → i < length es → now ≡ term_excess (take i es) n → IsAhead es i from n.terms → Passes es n i from place now (get_or es i d)
pass_at es n i from place now d r h e a c step p reads is =
    let more = excess_more es i d n h in
    let same = coefficient_ahead es i d from place n.terms r h a p in
    (omega (arith, more, same, reads, is, e), ahead_more es i d from place n.terms h a p)

pub pass_more : (es : List NormalTerm) (n : NormalConstraint) (i from place now : ℕ) (u : NormalTerm) → Rises 0 es → i < length es → u ≡ get_or es i u → now ≡ term_excess (take i es) n → IsAhead es i from n.terms → Passes es n i from place now u
pass_more es n i from place now u r h is e a =
    subst (λ (t : NormalTerm). Passes es n i from place now t) (sym is) (pass_at es n i from place now u r h e a)

pub excess_all : (i : ℕ) (ts : List NormalTerm) (n : NormalConstraint) → length ts ≤ i → term_excess (take i ts) n ≡ term_excess ts n
excess_all zero [] n h = refl
excess_all zero (t ∷ ts) n h = absurd (omega (arith, h))
excess_all (suc i) [] n h = refl
excess_all (suc i) (t ∷ ts) n h = omega (arith, excess_all i ts n (omega (arith, h)))

-- The rules on one constraint, of the terms that the code makes.
use Rattle.std.proofs.Common.{◌≡◌, ℕ, zero, suc, ◌+◌, ◌-◌, ◌*◌, ◌/◌, ◌%◌, ◌<◌, ◌≤◌, ◌^◌, min, Bool, true, false, cond, not, ◌==◌, ◌&&◌, List, [], ◌∷◌, length, get_or, take, refl, ap, sym, subst, ◌∙◌, arith, inl, inr}
use Rattle.std.specs.Int.{div_ceil}
use Rattle.std.proofs.lemmas.Bool.{cases_lt}
use Rattle.std.proofs.lemmas.Grind.{div_ceil_times}
use Rattle.std.proofs.Math.Nat.{mul_comm, mul-add, mul-suc, mul-le-mul_left}
use Rattle.normal_form.specs.declared.term.NormalTerm.{NormalTerm}
use Rattle.normal_form.specs.Normal.{NormalConstraint, Literals, sum_over, total, only, coefficient, Rises, Fits, largest_sum, largest_sum}
use Rattle.normal_form.proofs.Sums.{counted, sum_over_more, sum_over_take}
use Rattle.cut_rules.specs.Rules.{IsSaturation, IsWeakening, IsMultiple, IsCeiling, IsQuotient, IsTooLarge}
use Rattle.cut_rules.specs.Steps.{changed, less, times, parts}
use Rattle.cut_rules.proofs.Meaning.{one_multiple}
use Rattle.cut_rules.proofs.Changed.{changed_rises, changed_sum, changed_coefficient, changed_total, no_weight}

rises_as : (f : ℕ → ℕ → ℕ) (ts us : List NormalTerm) → Rises 0 ts → us ≡ changed f ts → Rises 0 us
rises_as f ts us r e = subst (λ (xs : List NormalTerm). Rises 0 xs) (sym e) (changed_rises f 0 ts r)

coefficient_as : (f : ℕ → ℕ → ℕ) → ((v : ℕ) → f v 0 ≡ 0) → (ts us : List NormalTerm) → Rises 0 ts → us ≡ changed f ts → (v : ℕ) (s : Bool) → sum_over (only v s) us ≡ f v (sum_over (only v s) ts)
coefficient_as f z ts us r e v s = ap (sum_over (only v s)) e ∙ changed_coefficient f z 0 ts r v s

-- saturation

pub saturation_from : (d r : NormalConstraint) (ts : List NormalTerm) (cap : ℕ) → Rises 0 d.terms → ts ≡ changed (λ _ c. min c cap) d.terms → cap ≡ d.degree → r.terms ≡ ts → r.degree ≡ cap → IsSaturation d r
saturation_from d r ts cap up e k t g = record {
  coefficients = λ v s. coefficient_as (λ _ c. min c cap) (λ v. omega arith) d.terms r.terms up (t ∙ e) v s ∙ ap (λ (x : ℕ). min (coefficient d v s) x) k;
  degree = g ∙ k;
  rises = rises_as (λ _ c. min c cap) d.terms r.terms up (t ∙ e);
}

-- terms that do not grow, with a degree that does not, are within the limits
pub fits_from : (f : ℕ → ℕ → ℕ) → ((v c : ℕ) → f v c ≤ c) → (d : NormalConstraint) (ts : List NormalTerm) (degree : ℕ) → Fits d → ts ≡ changed f d.terms → degree ≤ d.degree → Fits (record { terms = ts; degree = degree })
fits_from f down d ts degree fits e g =
    let sum : total ts ≤ largest_sum = omega (arith, ap total e, changed_total f down d.terms, fits.sum) in
    let low : degree ≤ largest_sum = omega (arith, g, fits.degree) in
    record { sum = sum; degree = low }

-- weakening

less_zero : (x v : ℕ) → less x v 0 ≡ 0
less_zero x v = no_weight (v == x)

less_below : (b : Bool) (c : ℕ) → cond b 0 c ≤ c
less_below true c = omega arith
less_below false c = omega arith

pub less_down : (x v c : ℕ) → less x v c ≤ c
less_down x v c = less_below (v == x) c

pub weakening_from : (x : ℕ) (d r : NormalConstraint) (ts : List NormalTerm) (degree gone : ℕ) → Rises 0 d.terms → ts ≡ changed (less x) d.terms → gone ≡ coefficient d x false + coefficient d x true → degree ≡ d.degree - gone → r.terms ≡ ts → r.degree ≡ degree → IsWeakening x d r
weakening_from x d r ts degree gone up e w k t g =
    let falls : r.degree ≡ (d.degree - coefficient d x false) - coefficient d x true = omega (arith, g, k, w) in
    record {
      coefficients = coefficient_as (less x) (less_zero x) d.terms r.terms up (t ∙ e);
      degree = falls;
      rises = rises_as (less x) d.terms r.terms up (t ∙ e);
    }

gone_term : (q n : Bool) (c : ℕ) → cond (q && not n) c 0 + cond (q && n) c 0 ≡ c - cond q 0 c
gone_term true true c = omega arith
gone_term true false c = omega arith
gone_term false n c = omega arith

-- what has gone with one more term
pub gone_more : (x : ℕ) (ts : List NormalTerm) (i gone left : ℕ) (t : NormalTerm) → i < length ts → t ≡ get_or ts i t → gone ≡ sum_over (only x false) (take i ts) + sum_over (only x true) (take i ts) → left ≡ less x (t.var.0) t.coef → gone + (t.coef - left) ≡ sum_over (only x false) (take (i + 1) ts) + sum_over (only x true) (take (i + 1) ts)
gone_more x ts i gone left t h e g l =
    let no : sum_over (only x false) (take (i + 1) ts) ≡ sum_over (only x false) (take i ts) + counted (only x false) t = sum_over_more (only x false) ts i t h ∙ ap (λ (u : NormalTerm). sum_over (only x false) (take i ts) + counted (only x false) u) (sym e) in
    let yes : sum_over (only x true) (take (i + 1) ts) ≡ sum_over (only x true) (take i ts) + counted (only x true) t = sum_over_more (only x true) ts i t h ∙ ap (λ (u : NormalTerm). sum_over (only x true) (take i ts) + counted (only x true) u) (sym e) in
    omega (arith, no, yes, g, l, gone_term (t.var.0 == x) t.negated t.coef)

pub gone_small : (x : ℕ) (ts : List NormalTerm) (i : ℕ) → total ts ≤ largest_sum → sum_over (only x false) (take i ts) + sum_over (only x true) (take i ts) ≤ 2 ^ 121
gone_small x ts i h = omega (arith, h, sum_over_take (only x false) i ts, sum_over_take (only x true) i ts)

-- multiplication

times_zero : (k : ℕ) → k * 0 ≡ 0
times_zero k = omega arith

times_step : (b : Bool) (k c x : ℕ) → cond b (k * c) 0 + k * x ≡ k * (cond b c 0 + x)
times_step true k c x = sym (mul-add k c x)
times_step false k c x =
    let plus : x ≡ 0 + x = omega arith in
    omega (arith, ap (λ (y : ℕ). k * y) plus)

pub times_sum : (set : Literals) (k : ℕ) (ts : List NormalTerm) → sum_over set (changed (times k) ts) ≡ k * sum_over set ts
times_sum set k [] = sym (times_zero k)
times_sum set k (t ∷ ts) =
    let step : cond (set (t.var.0) t.negated) (k * t.coef) 0 + k * sum_over set ts ≡ k * (cond (set (t.var.0) t.negated) t.coef 0 + sum_over set ts) = times_step (set (t.var.0) t.negated) k t.coef (sum_over set ts) in
    omega (arith, changed_sum set (times k) t ts, times_sum set k ts, step)

pub multiple_from : (k : ℕ) (d r : NormalConstraint) (ts : List NormalTerm) (degree : ℕ) → Rises 0 d.terms → ts ≡ changed (times k) d.terms → degree ≡ k * d.degree → r.terms ≡ ts → r.degree ≡ degree → IsMultiple k d r
multiple_from k d r ts degree up e g t f = record {
  coefficients = coefficient_as (times k) (λ _. times_zero k) d.terms r.terms up (t ∙ e);
  degree = f ∙ g;
  rises = rises_as (times k) d.terms r.terms up (t ∙ e);
}

pub multiple_within : (k : ℕ) (d r : NormalConstraint) → IsMultiple k d r → Fits r → (q : NormalConstraint) → IsMultiple k d q → Fits q
multiple_within k d r g f q h = subst Fits (one_multiple k d r q g h) f

multiple_of : ℕ → NormalConstraint → NormalConstraint
multiple_of k d = record { terms = changed (times k) d.terms; degree = k * d.degree }

pub multiple_too_large : (k : ℕ) (d : NormalConstraint) → Rises 0 d.terms → ((k * total d.terms ≤ largest_sum) × (k * d.degree ≤ largest_sum) → ⊥) → (r : NormalConstraint) × IsTooLarge (IsMultiple k d) r
unfolding multiple_of
multiple_too_large k d up above = (
  multiple_of k d,
  record {
    given = multiple_from k d (multiple_of k d) (changed (times k) d.terms) (k * d.degree) up refl refl refl refl;
    breaks = λ fits. above (omega (arith, fits.sum, times_sum (λ _ _. true) k d.terms), fits.degree);
  },
)

pub multiple_fits : (k : ℕ) (d : NormalConstraint) (ts : List NormalTerm) (degree : ℕ) → ts ≡ changed (times k) d.terms → degree ≡ k * d.degree → k * total d.terms ≤ largest_sum → k * d.degree ≤ largest_sum → Fits (record { terms = ts; degree = degree })
multiple_fits k d ts degree e g h l =
    let sum : total ts ≤ largest_sum = omega (arith, ap total e, times_sum (λ _ _. true) k d.terms, h) in
    let low : degree ≤ largest_sum = omega (arith, g, l) in
    record { sum = sum; degree = low }

-- no product is above that of the sum
pub times_small : (k : ℕ) (c sum : ℕ) → c ≤ sum → k * sum ≤ largest_sum → k * c ≤ largest_sum
times_small k c sum h l =
    let less : k * c ≤ k * sum = mul-le-mul_left k h in
    omega (arith, less, l)

-- division

over : (k n q p : ℕ) → k * q < n + k → n ≤ k * p → k * suc p ≤ k * q → ⊥
over k n q p h l a = omega (arith, h, l, a, mul-suc k p)

least_of : (k n q p : ℕ) → k * q < n + k → n ≤ k * p → q ≤ p
least_of k n q p h l = elim (cases_lt p q) [
  | inl a ↦ absurd (over k n q p h l (mul-le-mul_left k a))
  | inr a ↦ a
]

pub ceiling : (k n : ℕ) → 0 < k → IsCeiling k n (div_ceil n k)
ceiling k n h =
    let both : (n ≤ (n / k + min 1 (n % k)) * k) × ((n / k + min 1 (n % k)) * k < n + k) = div_ceil_times n k h in
    let turned : (n / k + min 1 (n % k)) * k ≡ k * (n / k + min 1 (n % k)) = mul_comm (n / k + min 1 (n % k)) k in
    record { enough = omega (arith, both.0, turned); least = λ p l. least_of k n (n / k + min 1 (n % k)) p (omega (arith, both.1, turned)) l }

parts_zero : (k : ℕ) → 0 < k → div_ceil 0 k ≡ 0
parts_zero k h =
    let low : div_ceil 0 k ≤ 0 = (ceiling k 0 h).least 0 (omega arith) in
    omega (arith, low)

at_least : (k c : ℕ) → 0 < k → c ≤ k * c
at_least k c h =
    let one : c * 1 ≤ c * k = mul-le-mul_left c h in
    omega (arith, one, mul_comm c k)

pub parts_down : (k : ℕ) → 0 < k → (c : ℕ) → div_ceil c k ≤ c
parts_down k h c = (ceiling k c h).least c (at_least k c h)

above : (k n q : ℕ) → 0 < n → n ≤ k * q → 0 < q
above k n zero p h = absurd (omega (arith, p, h, times_zero k))
above k n (suc q) p h = omega arith

-- no part of a number above 0 is 0
pub parts_up : (k : ℕ) → 0 < k → (v n : ℕ) → 0 < n → 0 < parts k v n
parts_up k h v n p = above k n (div_ceil n k) p (ceiling k n h).enough

pub quotient_from : (k : ℕ) (d r : NormalConstraint) (ts : List NormalTerm) (degree : ℕ) → 0 < k → Rises 0 d.terms → ts ≡ changed (parts k) d.terms → degree ≡ div_ceil d.degree k → r.terms ≡ ts → r.degree ≡ degree → IsQuotient k d r
quotient_from k d r ts degree h up e g t f = record {
  coefficients = λ v s. subst (IsCeiling k (coefficient d v s)) (sym (coefficient_as (parts k) (λ _. parts_zero k h) d.terms r.terms up (t ∙ e) v s)) (ceiling k (coefficient d v s) h);
  degree = subst (IsCeiling k d.degree) (sym (f ∙ g)) (ceiling k d.degree h);
  rises = rises_as (parts k) d.terms r.terms up (t ∙ e);
}

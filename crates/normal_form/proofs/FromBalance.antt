-- Merged terms that balance are those of the normal form, and hold where the signed terms meet their right side.
use Rattle.std.proofs.Common.{◌≡◌, ℕ, zero, suc, ◌+◌, ◌≤◌, Bool, true, false, cond, not, ◌==◌, ◌&&◌, List, [], ◌∷◌, refl, ap, sym, ◌∙◌, arith, inl, inr, ◌⊎◌}
use Rattle.std.specs.Prelude.{ℤ, pos, negsuc, ◌+ℤ◌, ◌-ℤ◌, neg_ℤ, ◌≤ℤ◌}
use Rattle.std.proofs.lemmas.Bool.{cases_eq}
use Rattle.std.proofs.lemmas.Bool.Decides.{nat_tests}
use Rattle.std.proofs.lemmas.Int.{ints}
use Rattle.linear.specs.declared.term.Term.{Term}
use Rattle.linear.specs.Valuation.{Valuation, literal_true}
use Rattle.linear.specs.Sum.{sum_of}
use Rattle.normal_form.specs.declared.term.NormalTerm.{NormalTerm}
use Rattle.normal_form.specs.Normal.{NormalConstraint, Holds, sum_over, only, Rises}
use Rattle.normal_form.specs.NormalOf.{at_least_zero, slope, net, negated_sum}
use Rattle.normal_form.specs.Balance.{slopes, rises_of, Balances}
use Rattle.normal_form.proofs.OneList.{absent}

-- the net coefficient of a variable is that of the set with it alone
pub net_is : (v : ℕ) (ts : List Term) → net ts v ≡ slopes (λ x. x == v) ts
net_is v [] = refl
net_is v (t ∷ ts) = ap (λ (z : ℤ). cond (t.var.0 == v) (slope t) (pos 0) +ℤ z) (net_is v ts)

split_term : (b n : Bool) (c : ℕ) → pos (cond (b && not n) c 0) ≡ pos (cond (b && n) c 0) +ℤ cond b (cond n (neg_ℤ (pos c)) (pos c)) (pos 0)
split_term true true c = omega (arith, ints)
split_term true false c = omega (arith, ints)
split_term false n c = omega (arith, ints)

-- of one variable: plain coefficients are negated ones and what is given
pub split_at : (v : ℕ) (ts : List NormalTerm) → pos (sum_over (only v false) ts) ≡ pos (sum_over (only v true) ts) +ℤ rises_of (λ x. x == v) ts
split_at v [] = refl
split_at v (t ∷ ts) = omega (arith, ints, split_term (t.var.0 == v) t.negated t.coef, split_at v ts)

-- a variable stands with one sign
one_sign : (b n : Bool) (c : ℕ) → (cond (b && not n) c 0 ≡ 0) ⊎ (cond (b && n) c 0 ≡ 0)
one_sign true true c = inl refl
one_sign true false c = inr refl
one_sign false n c = inl refl

-- a term of another variable counts for nothing
passed_over : (w v c : ℕ) (s : Bool) → (w ≡ v → ⊥) → cond ((w == v) && s) c 0 ≡ 0
passed_over w v c s h = grind (arith, nat_tests)

pub one_side : (low : ℕ) (ts : List NormalTerm) → Rises low ts → (v : ℕ) → (sum_over (only v false) ts ≡ 0) ⊎ (sum_over (only v true) ts ≡ 0)
one_side low [] r v = inl refl
one_side low (t ∷ ts) r v = elim (cases_eq (t.var.0) v) [
  | inl h ↦ elim (one_sign (t.var.0 == v) t.negated t.coef) [
    | inl k ↦ inl (omega (arith, k, absent (t.var.0 + 1) ts r.2 v false (omega (arith, h))))
    | inr k ↦ inr (omega (arith, k, absent (t.var.0 + 1) ts r.2 v true (omega (arith, h))))
  ]
  | inr h ↦ elim (one_side (t.var.0 + 1) ts r.2 v) [
    | inl k ↦ inl (omega (arith, k, passed_over (t.var.0) v t.coef (not t.negated) h))
    | inr k ↦ inr (omega (arith, k, passed_over (t.var.0) v t.coef t.negated h))
  ]
]

-- the two coefficients of a variable, from their difference
parted : (a b : ℕ) (z : ℤ) → pos a ≡ pos b +ℤ z → (a ≡ 0) ⊎ (b ≡ 0) → (a ≡ at_least_zero z) × (b ≡ at_least_zero (neg_ℤ z))
parted a b (pos zero) e (inl h) = (omega (arith, ints, e, h), omega (arith, ints, e, h))
parted a b (pos zero) e (inr h) = (omega (arith, ints, e, h), omega (arith, ints, e, h))
parted a b (pos (suc n)) e (inl h) = (omega (arith, ints, e, h), omega (arith, ints, e, h))
parted a b (pos (suc n)) e (inr h) = (omega (arith, ints, e, h), omega (arith, ints, e, h))
parted a b (negsuc n) e (inl h) = (omega (arith, ints, e, h), omega (arith, ints, e, h))
parted a b (negsuc n) e (inr h) = (omega (arith, ints, e, h), omega (arith, ints, e, h))

-- what is worth most: the sum of signed terms is the net coefficient of the true variables and that of all negated terms
worth_is : (x n : Bool) (z : ℤ) → cond (cond n (not x) x) z (pos 0) ≡ cond x (cond n (neg_ℤ z) z) (pos 0) +ℤ cond n z (pos 0)
worth_is true true z = omega (arith, ints)
worth_is true false z = omega (arith, ints)
worth_is false true z = omega (arith, ints)
worth_is false false z = omega (arith, ints)

pub sum_is : (a : Valuation) (ts : List Term) → sum_of a ts ≡ slopes a ts +ℤ negated_sum ts
sum_is a [] = refl
sum_is a (t ∷ ts) = omega (arith, ints, worth_is (a (t.var.0)) t.negated t.coef, sum_is a ts)

weight_term : (x n : Bool) (c : ℕ) → pos (cond (cond n (not x) x) c 0) ≡ cond x (cond n (neg_ℤ (pos c)) (pos c)) (pos 0) +ℤ pos (cond n c 0)
weight_term true true c = omega (arith, ints)
weight_term true false c = omega (arith, ints)
weight_term false true c = omega (arith, ints)
weight_term false false c = omega (arith, ints)

pub weight_is : (a : Valuation) (ts : List NormalTerm) → pos (sum_over (literal_true a) ts) ≡ rises_of a ts +ℤ pos (sum_over (λ _ negated. negated) ts)
weight_is a [] = refl
weight_is a (t ∷ ts) = omega (arith, ints, weight_term (a (t.var.0)) t.negated t.coef, weight_is a ts)

-- the coefficients of merged terms that balance
pub coefficients_from : (terms : List Term) (ts : List NormalTerm) → Rises 0 ts → Balances terms ts → (v : ℕ) → (sum_over (only v false) ts ≡ at_least_zero (net terms v)) × (sum_over (only v true) ts ≡ at_least_zero (neg_ℤ (net terms v)))
coefficients_from terms ts r b v =
    let z : pos (sum_over (only v false) ts) ≡ pos (sum_over (only v true) ts) +ℤ net terms v = split_at v ts ∙ ap (λ (z : ℤ). pos (sum_over (only v true) ts) +ℤ z) (b (λ x. x == v) ∙ sym (net_is v terms)) in
    parted (sum_over (only v false) ts) (sum_over (only v true) ts) (net terms v) z (one_side 0 ts r v)

-- max(0, z) is at most a natural number where z is
floor_up : (z : ℤ) (w : ℕ) → at_least_zero z ≤ w → z ≤ℤ pos w
floor_up (pos n) w h = omega (arith, ints, h)
floor_up (negsuc n) w h = omega (arith, ints, h)

floor_down : (z : ℤ) (w : ℕ) → z ≤ℤ pos w → at_least_zero z ≤ w
floor_down (pos n) w h = omega (arith, ints, h)
floor_down (negsuc n) w h = omega (arith, ints, h)

-- the degree of the normal form of terms with a right side, before it is put to 0 where it is below
abbrev pub raised : ℤ → List Term → List NormalTerm → ℤ
raised right terms ts = (right -ℤ negated_sum terms) +ℤ pos (sum_over (λ _ negated. negated) ts)

pub holds_from : (right : ℤ) (terms : List Term) (n : NormalConstraint) → Balances terms n.terms → n.degree ≡ at_least_zero (raised right terms n.terms) → (a : Valuation) → Holds a n → right ≤ℤ sum_of a terms
holds_from right terms n b d a h =
    let up : raised right terms n.terms ≤ℤ (pos (sum_over (literal_true a) n.terms)) = floor_up (raised right terms n.terms) (sum_over (literal_true a) n.terms) (omega (arith, d, h)) in
    omega (arith, ints, up, weight_is a n.terms, sum_is a terms, b a)

pub meets_from : (right : ℤ) (terms : List Term) (n : NormalConstraint) → Balances terms n.terms → n.degree ≡ at_least_zero (raised right terms n.terms) → (a : Valuation) → right ≤ℤ sum_of a terms → Holds a n
meets_from right terms n b d a h =
    let down : at_least_zero (raised right terms n.terms) ≤ sum_over (literal_true a) n.terms = floor_down (raised right terms n.terms) (sum_over (literal_true a) n.terms) (omega (arith, ints, h, weight_is a n.terms, sum_is a terms, b a)) in
    omega (arith, d, down)

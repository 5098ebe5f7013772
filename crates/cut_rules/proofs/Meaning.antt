-- The rules' equations alone: whatever satisfies the operand satisfies the result, and there is one result.
use Rattle.std.proofs.Common.{◌≡◌, ℕ, zero, suc, ◌+◌, ◌*◌, ◌≤◌, min, Bool, true, false, cond, not, ◌==◌, ap, sym, ◌∙◌, arith, inl, inr}
use Rattle.std.proofs.lemmas.Bool.{cases_eq}
use Rattle.std.proofs.lemmas.Bool.Decides.{nat_tests}
use Rattle.std.proofs.Math.Nat.{mul-add, mul-le-mul_left}
use Rattle.linear.specs.Valuation.{Valuation, literal_true}
use Rattle.linear.specs.declared.term.Lit.{Lit}
use Rattle.normal_form.specs.Normal.{sum_below, NormalConstraint, coefficient, weight, Holds, variable_bound}
use Rattle.normal_form.proofs.OneList.{one_constraint}
use Rattle.cut_rules.specs.Rules.{IsCeiling, IsMultiple, IsQuotient, IsSaturation, IsWeakening, IsAxiom}
use Rattle.normal_form.proofs.SumsByVariable.{told, pivot, single, single_sum}

weight_told : (n : ℕ) (a : Valuation) (d : NormalConstraint) → variable_bound d.terms ≤ n → weight a d ≡ sum_below n (told (literal_true a) d.terms)
weight_told n a d h = pivot (literal_true a) d.terms n h

-- multiplication

times_below : (n k : ℕ) (f g : ℕ → ℕ) → ((v : ℕ) → g v ≡ k * f v) → sum_below n g ≡ k * sum_below n f
times_below zero k f g e = omega arith
times_below (suc n) k f g e = omega (arith, e n, times_below n k f g e, mul-add k (sum_below n f) (f n))

times_at : (x : Bool) (k df dt rf rt : ℕ) → rf ≡ k * df → rt ≡ k * dt → cond x rf 0 + cond (not x) rt 0 ≡ k * (cond x df 0 + cond (not x) dt 0)
times_at true k df dt rf rt e f =
    let plus : df ≡ df + 0 = omega arith in
    omega (arith, e, ap (λ (y : ℕ). k * y) plus)
times_at false k df dt rf rt e f =
    let plus : dt ≡ 0 + dt = omega arith in
    omega (arith, f, ap (λ (y : ℕ). k * y) plus)

pub multiple_law : (k : ℕ) (d r : NormalConstraint) → IsMultiple k d r → (a : Valuation) → Holds a d → Holds a r
multiple_law k d r g a h =
    let n : ℕ = variable_bound d.terms + variable_bound r.terms in
    let sums : sum_below n (told (literal_true a) r.terms) ≡ k * sum_below n (told (literal_true a) d.terms) = times_below n k (told (literal_true a) d.terms) (told (literal_true a) r.terms) (λ v. times_at (a v) k (coefficient d v false) (coefficient d v true) (coefficient r v false) (coefficient r v true) (g.coefficients v false) (g.coefficients v true)) in
    let more : k * d.degree ≤ k * sum_below n (told (literal_true a) d.terms) = mul-le-mul_left k (omega (arith, h, weight_told n a d (omega arith))) in
    omega (arith, sums, more, g.degree, weight_told n a r (omega arith))

-- division

parts_below : (n k : ℕ) (f g : ℕ → ℕ) → ((v : ℕ) → f v ≤ k * g v) → sum_below n f ≤ k * sum_below n g
parts_below zero k f g e = omega arith
parts_below (suc n) k f g e = omega (arith, e n, parts_below n k f g e, mul-add k (sum_below n g) (g n))

parts_at : (x : Bool) (k df dt rf rt : ℕ) → df ≤ k * rf → dt ≤ k * rt → cond x df 0 + cond (not x) dt 0 ≤ k * (cond x rf 0 + cond (not x) rt 0)
parts_at true k df dt rf rt e f =
    let plus : rf ≡ rf + 0 = omega arith in
    omega (arith, e, ap (λ (y : ℕ). k * y) plus)
parts_at false k df dt rf rt e f =
    let plus : rt ≡ 0 + rt = omega arith in
    omega (arith, f, ap (λ (y : ℕ). k * y) plus)

pub quotient_law : (k : ℕ) (d r : NormalConstraint) → IsQuotient k d r → (a : Valuation) → Holds a d → Holds a r
quotient_law k d r g a h =
    let n : ℕ = variable_bound d.terms + variable_bound r.terms in
    let sums : sum_below n (told (literal_true a) d.terms) ≤ k * sum_below n (told (literal_true a) r.terms) = parts_below n k (told (literal_true a) d.terms) (told (literal_true a) r.terms) (λ v. parts_at (a v) k (coefficient d v false) (coefficient d v true) (coefficient r v false) (coefficient r v true) ((g.coefficients v false).enough) ((g.coefficients v true).enough)) in
    let low : r.degree ≤ sum_below n (told (literal_true a) r.terms) = g.degree.least (sum_below n (told (literal_true a) r.terms)) (omega (arith, h, sums, weight_told n a d (omega arith))) in
    omega (arith, low, weight_told n a r (omega arith))

-- saturation

cap_below : (n cap : ℕ) (f g : ℕ → ℕ) → ((v : ℕ) → min (f v) cap ≤ g v) → min (sum_below n f) cap ≤ sum_below n g
cap_below zero cap f g e = omega arith
cap_below (suc n) cap f g e = omega (arith, e n, cap_below n cap f g e)

cap_at : (x : Bool) (cap df dt rf rt : ℕ) → rf ≡ min df cap → rt ≡ min dt cap → min (cond x df 0 + cond (not x) dt 0) cap ≤ cond x rf 0 + cond (not x) rt 0
cap_at true cap df dt rf rt e f = omega (arith, e)
cap_at false cap df dt rf rt e f = omega (arith, f)

pub saturation_law : (d r : NormalConstraint) → IsSaturation d r → (a : Valuation) → Holds a d → Holds a r
saturation_law d r g a h =
    let n : ℕ = variable_bound d.terms + variable_bound r.terms in
    let sums : min (sum_below n (told (literal_true a) d.terms)) d.degree ≤ sum_below n (told (literal_true a) r.terms) = cap_below n d.degree (told (literal_true a) d.terms) (told (literal_true a) r.terms) (λ v. cap_at (a v) d.degree (coefficient d v false) (coefficient d v true) (coefficient r v false) (coefficient r v true) (g.coefficients v false) (g.coefficients v true)) in
    omega (arith, sums, h, g.degree, weight_told n a d (omega arith), weight_told n a r (omega arith))

-- weakening

within_below : (n : ℕ) (f g k : ℕ → ℕ) → ((v : ℕ) → f v ≤ g v + k v) → sum_below n f ≤ sum_below n g + sum_below n k
within_below zero f g k e = omega arith
within_below (suc n) f g k e = omega (arith, e n, within_below n f g k e)

less_at : (x b : Bool) (df dt rf rt : ℕ) → rf ≡ cond b 0 df → rt ≡ cond b 0 dt → cond x df 0 + cond (not x) dt 0 ≤ (cond x rf 0 + cond (not x) rt 0) + cond b (df + dt) 0
less_at true true df dt rf rt e f = omega (arith, e, f)
less_at true false df dt rf rt e f = omega (arith, e, f)
less_at false true df dt rf rt e f = omega (arith, e, f)
less_at false false df dt rf rt e f = omega (arith, e, f)

turned : (w v : ℕ) → (w == v) ≡ (v == w)
turned w v = grind (arith, nat_tests)

off : (w v c : ℕ) → (w ≡ v → ⊥) → cond (w == v) c 0 ≡ 0
off w v c h = grind (arith, nat_tests)

-- what a function gives at one number alone
alone : (f : ℕ → ℕ) (v x : ℕ) → cond (v == x) (f v) 0 ≡ single x (f x) v
alone f v x = elim (cases_eq v x) [
  | inl e ↦ ap (λ (y : ℕ). cond (v == x) (f y) 0) e ∙ ap (λ (b : Bool). cond b (f x) 0) (turned v x)
  | inr e ↦ off v x (f v) e ∙ sym (off x v (f x) (λ k. e (sym k)))
]

pub weakening_law : (x : ℕ) (d r : NormalConstraint) → IsWeakening x d r → (a : Valuation) → Holds a d → Holds a r
weakening_law x d r g a h =
    let n : ℕ = (variable_bound d.terms + variable_bound r.terms) + (x + 1) in
    let sums : sum_below n (told (literal_true a) d.terms) ≤ sum_below n (told (literal_true a) r.terms) + sum_below n (single x (coefficient d x false + coefficient d x true)) = within_below n (told (literal_true a) d.terms) (told (literal_true a) r.terms) (single x (coefficient d x false + coefficient d x true)) (λ v. omega (arith, less_at (a v) (v == x) (coefficient d v false) (coefficient d v true) (coefficient r v false) (coefficient r v true) (g.coefficients v false) (g.coefficients v true), alone (λ (y : ℕ). coefficient d y false + coefficient d y true) v x)) in
    omega (arith, sums, h, g.degree, single_sum x (coefficient d x false + coefficient d x true) n (omega arith), weight_told n a d (omega arith), weight_told n a r (omega arith))

-- the axiom of a literal

pub axiom_law : (l : Lit) (r : NormalConstraint) → IsAxiom l r → (a : Valuation) → Holds a r
axiom_law l r g a = omega (arith, g.degree)

-- one result

one_ceiling : (k n p q : ℕ) → IsCeiling k n p → IsCeiling k n q → p ≡ q
one_ceiling k n p q g h = omega (arith, g.least q h.enough, h.least p g.enough)

pub one_multiple : (k : ℕ) (d r q : NormalConstraint) → IsMultiple k d r → IsMultiple k d q → r ≡ q
one_multiple k d r q g h = one_constraint r q g.rises h.rises (λ v s. g.coefficients v s ∙ sym (h.coefficients v s)) (g.degree ∙ sym h.degree)

pub one_quotient : (k : ℕ) (d r q : NormalConstraint) → IsQuotient k d r → IsQuotient k d q → r ≡ q
one_quotient k d r q g h = one_constraint r q g.rises h.rises (λ v s. one_ceiling k (coefficient d v s) (coefficient r v s) (coefficient q v s) (g.coefficients v s) (h.coefficients v s)) (one_ceiling k d.degree r.degree q.degree g.degree h.degree)

pub one_saturation : (d r q : NormalConstraint) → IsSaturation d r → IsSaturation d q → r ≡ q
one_saturation d r q g h = one_constraint r q g.rises h.rises (λ v s. g.coefficients v s ∙ sym (h.coefficients v s)) (g.degree ∙ sym h.degree)

pub one_weakening : (x : ℕ) (d r q : NormalConstraint) → IsWeakening x d r → IsWeakening x d q → r ≡ q
one_weakening x d r q g h = one_constraint r q g.rises h.rises (λ v s. g.coefficients v s ∙ sym (h.coefficients v s)) (g.degree ∙ sym h.degree)

pub one_axiom : (l : Lit) (r q : NormalConstraint) → IsAxiom l r → IsAxiom l q → r ≡ q
one_axiom l r q g h = one_constraint r q g.rises h.rises (λ v s. g.coefficients v s ∙ sym (h.coefficients v s)) (g.degree ∙ sym h.degree)

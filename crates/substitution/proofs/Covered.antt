-- What a constraint covers holds wherever it does.
use Rattle.std.proofs.Common.{◌≡◌, ◌↔◌, ℕ, ◌+◌, ◌-◌, ◌<◌, ◌≤◌, Bool, true, false, cond, ◌&&◌, List, [], ◌∷◌, nat_le, refl, ap, arith}
use Rattle.std.proofs.lemmas.Bool.{false≢true}
use Rattle.std.proofs.lemmas.Bool.Decides.{nat_tests}
use Rattle.linear.specs.Valuation.{Valuation, literal_true}
use Rattle.normal_form.specs.declared.term.NormalTerm.{NormalTerm}
use Rattle.normal_form.specs.Normal.{Literals, NormalConstraint, Holds, variable_bound, sum_over, only, coefficient, total, Rises}
use Rattle.normal_form.proofs.SetSums.{Within, sum_within, sum_apart}
use Rattle.normal_form.proofs.SumsByVariable.{all_zero, add_up, told, pivot}
use Rattle.substitution.specs.Covering.{excess_at, excess, Covers}
use Rattle.substitution.proofs.Excess.{term_excess, excess_of_terms}

-- the true literals whose variables are not below a number
abbrev true_from : ℕ → Valuation → Literals
true_from low a v s = literal_true a v s && nat_le low v

both_true : (b d : Bool) → (b && d) ≡ true → (b ≡ true) × (d ≡ true)
both_true true d h = (refl, h)
both_true false d h = absurd (false≢true h)

raise : (low v x : ℕ) (b : Bool) → low ≤ v → (b && nat_le (v + 1) x) ≡ true → (b && nat_le low x) ≡ true
raise low v x true h e = grind (arith, nat_tests)
raise low v x false h e = e

above : (v : ℕ) (b : Bool) → (b && nat_le (v + 1) v) ≡ false
above v true = grind (arith, nat_tests)
above v false = refl

reached : (low v : ℕ) (b : Bool) → low ≤ v → b ≡ true → (b && nat_le low v) ≡ true
reached low v true h e = grind (arith, nat_tests)
reached low v false h e = absurd (false≢true e)

-- those from a number on are among those from a lower one on
fewer : (a : Valuation) (low v : ℕ) → low ≤ v → Within (true_from (v + 1) a) (true_from low a)
fewer a low v h x y = raise low v x (literal_true a x y) h

-- a true literal has its coefficient beside those of the variables above it
beside : (a : Valuation) (low v : ℕ) (s : Bool) → low ≤ v → literal_true a v s ≡ true → (ns : List NormalTerm) → sum_over (true_from (v + 1) a) ns + sum_over (only v s) ns ≤ sum_over (true_from low a) ns
beside a low v s h true' =
    sum_apart (true_from (v + 1) a) (true_from low a) v s (fewer a low v h) (above v (literal_true a v s)) (reached low v (literal_true a v s) h true')

-- what a constraint has at the true literals of some terms
abbrev matched : Valuation → NormalConstraint → List NormalTerm → ℕ
matched a n [] = 0
matched a n (t ∷ ts) = cond (literal_true a (t.var.0) t.negated) (coefficient n (t.var.0) t.negated) 0 + matched a n ts

with_head : (a : Valuation) (n : NormalConstraint) (low v : ℕ) (s : Bool) → low ≤ v → (b : Bool) → literal_true a v s ≡ b → (m : ℕ) → m ≤ sum_over (true_from (v + 1) a) n.terms → cond b (coefficient n v s) 0 + m ≤ sum_over (true_from low a) n.terms
with_head a n low v s h true e m k = omega (arith, beside a low v s h e n.terms, k)
with_head a n low v s h false e m k = omega (arith, sum_within (true_from (v + 1) a) (true_from low a) (fewer a low v h) n.terms, k)

matched_below : (a : Valuation) (n : NormalConstraint) (low : ℕ) (ts : List NormalTerm) → Rises low ts → matched a n ts ≤ sum_over (true_from low a) n.terms
matched_below a n low [] r = omega arith
matched_below a n low (t ∷ ts) r =
    with_head a n low (t.var.0) t.negated r.0 (literal_true a (t.var.0) t.negated) refl (matched a n ts) (matched_below a n (t.var.0 + 1) ts r.2)

true_of : (a : Valuation) (ns : List NormalTerm) → sum_over (true_from 0 a) ns ≤ sum_over (literal_true a) ns
true_of a = sum_within (true_from 0 a) (literal_true a) (λ x y e. (both_true (literal_true a x y) (nat_le 0 x) e).0)

parted : (b : Bool) (c k : ℕ) → cond b c 0 ≤ cond b k 0 + (c - k)
parted true c k = omega arith
parted false c k = omega arith

-- a weight is what is matched and no more than the excess
weight_below : (a : Valuation) (n : NormalConstraint) (ts : List NormalTerm) → sum_over (literal_true a) ts ≤ matched a n ts + term_excess ts n
weight_below a n [] = omega arith
weight_below a n (t ∷ ts) = omega (arith, parted (literal_true a (t.var.0) t.negated) t.coef (coefficient n (t.var.0) t.negated), weight_below a n ts)

pub covered_holds : (e n : NormalConstraint) → Rises 0 e.terms → Covers e n → (a : Valuation) → Holds a e → Holds a n
covered_holds e n r c a h =
    omega (arith, c, h, excess_of_terms e n r, weight_below a n e.terms, matched_below a n 0 e.terms r, true_of a n.terms)

none_more : (x y : ℕ) → (x - x) + (y - y) ≡ 0
none_more x y = omega arith

pub covers_itself : (n : NormalConstraint) → Covers n n
covers_itself n =
    let none = all_zero (variable_bound n.terms) (excess_at n n) (λ v. none_more (coefficient n v false) (coefficient n v true)) in
    omega (arith, none)

-- beside a constraint without terms everything is excess
all_excess : (e n : NormalConstraint) → n.terms ≡ [] → excess e n ≡ total e.terms
all_excess e n h =
    let bound = variable_bound e.terms in
    let at : (v : ℕ) (s : Bool) → coefficient n v s ≡ 0 = λ v s. ap (sum_over (only v s)) h in
    let same = add_up bound (excess_at e n) (λ _. 0) (told (λ _ _. true) e.terms) (λ _. 0) (λ v. omega (arith, at v false, at v true)) in
    omega (arith, same, pivot (λ _ _. true) e.terms bound (omega arith))

pub covers_falsity : (e n : NormalConstraint) → n.terms ≡ [] → n.degree ≡ 1 → Covers e n ↔ (total e.terms < e.degree)
covers_falsity e n t d =
    let all = all_excess e n t in
    (λ c. omega (arith, c, all, d), λ h. omega (arith, h, all, d))

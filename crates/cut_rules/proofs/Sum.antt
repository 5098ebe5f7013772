-- The sum of two constraints: coefficients from the balance, totals, weights, and that there is one sum.
use Rattle.std.proofs.Common.{◌≡◌, ℕ, ◌+◌, ◌-◌, min, max, Bool, true, false, cond, not, ◌==◌, List, refl, sym, subst, ◌∙◌, arith, inl, inr, ◌⊎◌}
use Rattle.std.specs.Prelude.{ℤ, pos, ◌+ℤ◌}
use Rattle.std.proofs.lemmas.Int.{ints}
use Rattle.linear.specs.Valuation.{Valuation, literal_true}
use Rattle.normal_form.specs.declared.term.NormalTerm.{NormalTerm}
use Rattle.normal_form.specs.Normal.{sum_below, NormalConstraint, sum_over, only, coefficient, total, weight, Holds, Rises, Fits, variable_bound}
use Rattle.normal_form.specs.Balance.{rises_of}
use Rattle.normal_form.proofs.FromBalance.{split_at, one_side}
use Rattle.normal_form.proofs.OneList.{one_constraint}
use Rattle.cut_rules.specs.Rules.{both_at, cancelled, IsSum, IsTooLarge}
use Rattle.cut_rules.specs.Steps.{SumBalances}
use Rattle.normal_form.proofs.SumsByVariable.{all_zero, add_up, none_above, told, pivot, absent_above}

parted : (rf rt df dt ef et : ℕ) (r d e : ℤ) → pos rf ≡ pos rt +ℤ r → pos df ≡ pos dt +ℤ d → pos ef ≡ pos et +ℤ e → r ≡ d +ℤ e → (rf ≡ 0) ⊎ (rt ≡ 0) → (rf ≡ (df + ef) - (dt + et)) × (rt ≡ (dt + et) - (df + ef))
parted rf rt df dt ef et r d e x y z b (inl h) = (omega (arith, ints, x, y, z, b, h), omega (arith, ints, x, y, z, b, h))
parted rf rt df dt ef et r d e x y z b (inr h) = (omega (arith, ints, x, y, z, b, h), omega (arith, ints, x, y, z, b, h))

by_sign : (P : Bool → Type 0) → P false → P true → (s : Bool) → P s
by_sign P f t true = t
by_sign P f t false = f

-- the coefficients of the sum of each literal
abbrev pub SumAt : NormalConstraint → NormalConstraint → List NormalTerm → Type 0
SumAt d e ts = (v : ℕ) (s : Bool) → sum_over (only v s) ts ≡ both_at d e v s - both_at d e v (not s)

pub sum_at : (d e : NormalConstraint) (ts : List NormalTerm) → Rises 0 ts → SumBalances d.terms e.terms ts → SumAt d e ts
sum_at d e ts r b v s =
    let both : (sum_over (only v false) ts ≡ both_at d e v false - both_at d e v true) × (sum_over (only v true) ts ≡ both_at d e v true - both_at d e v false) = parted (sum_over (only v false) ts) (sum_over (only v true) ts) (coefficient d v false) (coefficient d v true) (coefficient e v false) (coefficient e v true) (rises_of (λ x. x == v) ts) (rises_of (λ x. x == v) d.terms) (rises_of (λ x. x == v) e.terms) (split_at v ts) (split_at v d.terms) (split_at v e.terms) (b (λ x. x == v)) (one_side 0 ts r v) in
    by_sign (λ s. sum_over (only v s) ts ≡ both_at d e v s - both_at d e v (not s)) both.0 both.1 s

-- what cancels at a variable
abbrev pub common : NormalConstraint → NormalConstraint → ℕ → ℕ
common d e v = min (both_at d e v false) (both_at d e v true)

cancelled_below : (d e : NormalConstraint) (k : ℕ) → sum_below (k + max (variable_bound d.terms) (variable_bound e.terms)) (common d e) ≡ cancelled d e
cancelled_below d e k = none_above (k + max (variable_bound d.terms) (variable_bound e.terms)) (max (variable_bound d.terms) (variable_bound e.terms)) (common d e) (omega arith) (λ v h. omega (arith, absent_above d.terms v false (omega (arith, h)), absent_above e.terms v false (omega (arith, h))))

twice : (n : ℕ) (f : ℕ → ℕ) → sum_below n (λ v. f v + f v) ≡ sum_below n f + sum_below n f
twice n f = omega (arith, add_up n (λ v. f v + f v) (λ _. 0) f f (λ v. omega arith), all_zero n (λ _. 0) (λ _. refl))

-- the coefficient sum of the sum: what cancels goes twice
pub sum_total : (d e : NormalConstraint) (ts : List NormalTerm) → SumAt d e ts → total ts + (cancelled d e + cancelled d e) ≡ total d.terms + total e.terms
sum_total d e ts c =
    let n : ℕ = variable_bound ts + max (variable_bound d.terms) (variable_bound e.terms) in
    let sums : sum_below n (told (λ _ _. true) ts) + sum_below n (λ v. common d e v + common d e v) ≡ sum_below n (told (λ _ _. true) d.terms) + sum_below n (told (λ _ _. true) e.terms) = add_up n (told (λ _ _. true) ts) (λ v. common d e v + common d e v) (told (λ _ _. true) d.terms) (told (λ _ _. true) e.terms) (λ v. omega (arith, c v false, c v true)) in
    omega (arith, sums, twice n (common d e), cancelled_below d e (variable_bound ts), pivot (λ _ _. true) ts n (omega arith), pivot (λ _ _. true) d.terms n (omega arith), pivot (λ _ _. true) e.terms n (omega arith))

lighter : (x : Bool) (rf rt df dt ef et : ℕ) → rf ≡ (df + ef) - (dt + et) → rt ≡ (dt + et) - (df + ef) → (cond x rf 0 + cond (not x) rt 0) + min (df + ef) (dt + et) ≡ (cond x df 0 + cond (not x) dt 0) + (cond x ef 0 + cond (not x) et 0)
lighter true rf rt df dt ef et f t = omega (arith, f, t)
lighter false rf rt df dt ef et f t = omega (arith, f, t)

-- its weight: of each variable one literal is true, so what cancels goes once
pub sum_weight : (d e : NormalConstraint) (ts : List NormalTerm) → SumAt d e ts → (a : Valuation) → sum_over (literal_true a) ts + cancelled d e ≡ weight a d + weight a e
sum_weight d e ts c a =
    let n : ℕ = variable_bound ts + max (variable_bound d.terms) (variable_bound e.terms) in
    let sums : sum_below n (told (literal_true a) ts) + sum_below n (common d e) ≡ sum_below n (told (literal_true a) d.terms) + sum_below n (told (literal_true a) e.terms) = add_up n (told (literal_true a) ts) (common d e) (told (literal_true a) d.terms) (told (literal_true a) e.terms) (λ v. lighter (a v) (sum_over (only v false) ts) (sum_over (only v true) ts) (coefficient d v false) (coefficient d v true) (coefficient e v false) (coefficient e v true) (c v false) (c v true)) in
    omega (arith, sums, cancelled_below d e (variable_bound ts), pivot (literal_true a) ts n (omega arith), pivot (literal_true a) d.terms n (omega arith), pivot (literal_true a) e.terms n (omega arith))

-- whatever satisfies both satisfies the sum
pub sum_keeps : (d e r : NormalConstraint) → IsSum d e r → (a : Valuation) → Holds a d → Holds a e → Holds a r
sum_keeps d e r g a h k = omega (arith, g.degree, h, k, sum_weight d e r.terms g.coefficients a)

-- there is one sum
pub one_sum : (d e r q : NormalConstraint) → IsSum d e r → IsSum d e q → r ≡ q
one_sum d e r q g h = one_constraint r q g.rises h.rises (λ v s. g.coefficients v s ∙ sym (h.coefficients v s)) (g.degree ∙ sym h.degree)

-- the terms that balance, with the degree less what cancels, are the sum
pub sum_from : (d e r : NormalConstraint) (ts : List NormalTerm) (degree : ℕ) → Rises 0 ts → SumBalances d.terms e.terms ts → degree ≡ (d.degree + e.degree) - cancelled d e → r.terms ≡ ts → r.degree ≡ degree → IsSum d e r
sum_from d e r ts degree up b g t f =
    let coefficients : SumAt d e r.terms = subst (λ (xs : List NormalTerm). SumAt d e xs) (sym t) (sum_at d e ts up b) in
    record { coefficients = coefficients; degree = f ∙ g; rises = subst (λ (xs : List NormalTerm). Rises 0 xs) (sym t) up }

made : List NormalTerm → ℕ → NormalConstraint
made ts degree = record { terms = ts; degree = degree }

pub sum_too_large : (d e : NormalConstraint) (ts : List NormalTerm) (degree : ℕ) → Rises 0 ts → SumBalances d.terms e.terms ts → degree ≡ (d.degree + e.degree) - cancelled d e → (Fits (record { terms = ts; degree = degree }) → ⊥) → (r : NormalConstraint) × IsTooLarge (IsSum d e) r
unfolding made
sum_too_large d e ts degree up b g h = (made ts degree, record { given = sum_from d e (made ts degree) ts degree up b g refl refl; breaks = h })

pub sum_within : (d e r : NormalConstraint) → IsSum d e r → Fits r → (q : NormalConstraint) → IsSum d e q → Fits q
sum_within d e r g f q h = subst Fits (one_sum d e r q g h) f

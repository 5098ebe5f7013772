-- Sums over lists of terms, their variables' bound, and lists whose variables rise.
use Rattle.std.proofs.Common.{◌≡◌, ℕ, zero, suc, ◌+◌, ◌<◌, ◌≤◌, max, Bool, true, false, cond, List, [], ◌∷◌, ◌++◌, length, get_or, take, arith, refl, ap, ◌∙◌}
use Rattle.std.proofs.lemmas.List.{take_more}
use Rattle.std.proofs.lemmas.List.Recursion.{max_push, max_bounds}
use Rattle.linear.specs.Valuation.{Valuation, literal_true}
use Rattle.normal_form.specs.declared.term.NormalTerm.{NormalTerm}
use Rattle.normal_form.specs.Normal.{Literals, NormalConstraint, sum_over, total, Holds, Rises, variable_bound}

-- what a term adds to the sum over a set
abbrev pub counted : Literals → NormalTerm → ℕ
counted set t = cond (set (t.var.0) t.negated) t.coef 0

pub sum_over_push : (set : Literals) (ts : List NormalTerm) (t : NormalTerm) → sum_over set (ts ++ t ∷ []) ≡ sum_over set ts + counted set t
sum_over_push set [] t = omega arith
sum_over_push set (x ∷ xs) t = omega (arith, sum_over_push set xs t)

pub sum_over_more : (set : Literals) (ts : List NormalTerm) (i : ℕ) (d : NormalTerm) → i < length ts → sum_over set (take (i + 1) ts) ≡ sum_over set (take i ts) + counted set (get_or ts i d)
sum_over_more set ts i d h = ap (sum_over set) (take_more ts i d h) ∙ sum_over_push set (take i ts) (get_or ts i d)

-- no sum over a set is above the sum of all
counted_below : (b : Bool) (n : ℕ) → cond b n 0 ≤ n
counted_below true n = omega arith
counted_below false n = omega arith

pub sum_over_below : (set : Literals) (ts : List NormalTerm) → sum_over set ts ≤ total ts
sum_over_below set [] = omega arith
sum_over_below set (t ∷ ts) = omega (arith, counted_below (set (t.var.0) t.negated) t.coef, sum_over_below set ts)

-- nor is one over the first terms
pub sum_over_take : (set : Literals) (i : ℕ) (ts : List NormalTerm) → sum_over set (take i ts) ≤ total ts
sum_over_take set zero ts = omega arith
sum_over_take set (suc i) [] = omega arith
sum_over_take set (suc i) (t ∷ ts) = omega (arith, counted_below (set (t.var.0) t.negated) t.coef, sum_over_take set i ts)

-- where not even all coefficients reach the degree, a constraint holds nowhere
pub holds_nowhere : (n : NormalConstraint) → total n.terms < n.degree → (a : Valuation) → Holds a n → ⊥
holds_nowhere n above a h = omega (arith, above, h, sum_over_below (literal_true a) n.terms)

pub bound_at : (ts : List NormalTerm) (i : ℕ) (d : NormalTerm) → i < length ts → (get_or ts i d).var.0 + 1 ≤ variable_bound ts
bound_at ts i d h = max_bounds variable_bound (λ t. t.var.0 + 1) refl (λ _ _. refl) ts i d h

pub bound_push : (ts : List NormalTerm) (t : NormalTerm) → variable_bound (ts ++ t ∷ []) ≡ max (variable_bound ts) (t.var.0 + 1)
bound_push ts t = max_push variable_bound (λ t. t.var.0 + 1) refl (λ _ _. refl) ts t

-- a term above all others goes to the end
pub rises_push : (low : ℕ) (ts : List NormalTerm) (t : NormalTerm) → Rises low ts → low ≤ t.var.0 → variable_bound ts ≤ t.var.0 → 0 < t.coef → Rises low (ts ++ t ∷ [])
rises_push low [] t r l b p = (l, p, tt)
rises_push low (x ∷ xs) t r l b p = (r.0, r.1, rises_push (x.var.0 + 1) xs t r.2 (omega (arith, b)) (omega (arith, b)) p)

pub rises_at : (low : ℕ) (ts : List NormalTerm) (i : ℕ) (d : NormalTerm) → Rises low ts → i < length ts → 0 < (get_or ts i d).coef
rises_at low (t ∷ ts) zero d r h = r.1
rises_at low (t ∷ ts) (suc i) d r h = rises_at (t.var.0 + 1) ts i d r.2 (omega (arith, h))
rises_at low [] i d r h = absurd (omega (arith, h))

low_at : (low : ℕ) (ts : List NormalTerm) (i : ℕ) (d : NormalTerm) → Rises low ts → i < length ts → low ≤ (get_or ts i d).var.0
low_at low (t ∷ ts) zero d r h = r.0
low_at low (t ∷ ts) (suc i) d r h = omega (arith, r.0, low_at (t.var.0 + 1) ts i d r.2 (omega (arith, h)))
low_at low [] i d r h = absurd (omega (arith, h))

-- the terms before a place have variables below that of the place
pub bound_take : (low : ℕ) (ts : List NormalTerm) (i : ℕ) (d : NormalTerm) → Rises low ts → i < length ts → variable_bound (take i ts) ≤ (get_or ts i d).var.0
bound_take low (t ∷ ts) zero d r h = omega arith
bound_take low (t ∷ ts) (suc i) d r h = omega (arith, low_at (t.var.0 + 1) ts i d r.2 (omega (arith, h)), bound_take (t.var.0 + 1) ts i d r.2 (omega (arith, h)))
bound_take low [] i d r h = absurd (omega (arith, h))

-- The excess told term by term: where the variables of the terms rise, each literal has one term, so the sum over
-- literals is a sum over terms.
use Rattle.std.proofs.Common.{◌≡◌, ℕ, ◌+◌, ◌-◌, ◌≤◌, Bool, true, false, cond, not, ◌==◌, ◌&&◌, List, [], ◌∷◌, refl, ap, sym, ◌∙◌, arith, inl, inr}
use Rattle.std.proofs.lemmas.Bool.{cases_eq}
use Rattle.std.proofs.lemmas.Bool.Decides.{nat_tests}
use Rattle.normal_form.specs.declared.term.NormalTerm.{NormalTerm}
use Rattle.normal_form.specs.Normal.{NormalConstraint, sum_over, sum_below, only, coefficient, variable_bound, Rises}
use Rattle.normal_form.proofs.OneList.{absent}
use Rattle.normal_form.proofs.SumsByVariable.{all_zero, add_up, single, single_sum}
use Rattle.substitution.specs.Covering.{excess}

-- what some terms have at their literals more than a constraint has there
abbrev pub term_excess : List NormalTerm → NormalConstraint → ℕ
term_excess [] n = 0
term_excess (t ∷ ts) n = (t.coef - coefficient n (t.var.0) t.negated) + term_excess ts n

-- what the literals of a variable have among some terms more than in a constraint
abbrev over_at : List NormalTerm → NormalConstraint → ℕ → ℕ
over_at ts n v = (sum_over (only v false) ts - coefficient n v false) + (sum_over (only v true) ts - coefficient n v true)

with_term : (b s : Bool) (c x y k m : ℕ) → (b ≡ true → (x ≡ 0) × (y ≡ 0))
    → ((cond (b && not s) c 0 + x) - k) + ((cond (b && s) c 0 + y) - m) ≡ cond b (c - cond s m k) 0 + ((x - k) + (y - m))
with_term true true c x y k m h = let none = h refl in omega (arith, none.0, none.1)
with_term true false c x y k m h = let none = h refl in omega (arith, none.0, none.1)
with_term false s c x y k m h = omega arith

its_own : (s : Bool) (n : NormalConstraint) (v : ℕ) → cond s (coefficient n v true) (coefficient n v false) ≡ coefficient n v s
its_own true n v = refl
its_own false n v = refl

apart : (w v c : ℕ) → (w ≡ v → ⊥) → cond (w == v) c 0 ≡ 0
apart w v c h = grind (arith, nat_tests)

at_own : (w v c : ℕ) (s : Bool) (n : NormalConstraint)
    → cond (w == v) (c - cond s (coefficient n v true) (coefficient n v false)) 0 ≡ cond (w == v) (c - coefficient n w s) 0
at_own w v c s n = elim (cases_eq w v) [
  | inl h ↦ ap (λ (x : ℕ). cond (w == v) (c - x) 0) (its_own s n v ∙ ap (λ (x : ℕ). coefficient n x s) (sym h))
  | inr h ↦ apart w v _ h ∙ sym (apart w v _ h)
]

absent_here : (t : NormalTerm) (ts : List NormalTerm) (v : ℕ) → Rises (t.var.0 + 1) ts → (t.var.0 == v) ≡ true
    → (sum_over (only v false) ts ≡ 0) × (sum_over (only v true) ts ≡ 0)
absent_here t ts v r h =
    let is : t.var.0 ≡ v = grind (arith, nat_tests) in
    (absent (t.var.0 + 1) ts r v false (omega (arith, is)), absent (t.var.0 + 1) ts r v true (omega (arith, is)))

over_cons : (t : NormalTerm) (ts : List NormalTerm) (n : NormalConstraint) (v : ℕ) → Rises (t.var.0 + 1) ts
    → over_at (t ∷ ts) n v ≡ single (t.var.0) (t.coef - coefficient n (t.var.0) t.negated) v + over_at ts n v
over_cons t ts n v r =
    with_term (t.var.0 == v) t.negated t.coef (sum_over (only v false) ts) (sum_over (only v true) ts) (coefficient n v false) (coefficient n v true) (absent_here t ts v r)
    ∙ ap (λ (x : ℕ). x + over_at ts n v) (at_own (t.var.0) v t.coef t.negated n)

none_over : (k m : ℕ) → (0 - k) + (0 - m) ≡ 0
none_over k m = omega arith

over_terms : (low : ℕ) (ts : List NormalTerm) (n : NormalConstraint) (bound : ℕ) → Rises low ts → variable_bound ts ≤ bound → sum_below bound (over_at ts n) ≡ term_excess ts n
over_terms low [] n bound r h = all_zero bound (over_at [] n) (λ v. none_over (coefficient n v false) (coefficient n v true))
over_terms low (t ∷ ts) n bound r h =
    let more = t.coef - coefficient n (t.var.0) t.negated in
    let rest = over_terms (t.var.0 + 1) ts n bound r.2 (omega (arith, h)) in
    let sums = add_up bound (over_at (t ∷ ts) n) (λ _. 0) (single (t.var.0) more) (over_at ts n) (λ v. omega (arith, over_cons t ts n v r.2)) in
    omega (arith, rest, sums, all_zero bound (λ _. 0) (λ _. refl), single_sum (t.var.0) more bound (omega (arith, h)))

pub excess_of_terms : (e n : NormalConstraint) → Rises 0 e.terms → excess e n ≡ term_excess e.terms n
excess_of_terms e n r = over_terms 0 e.terms n (variable_bound e.terms) r (omega arith)

-- The term of a variable, looked up in a list in order of the variables.
use Rattle.std.proofs.Common.{◌≡◌, ℕ, zero, suc, ◌+◌, ◌<◌, Bool, cond, ◌==◌, ◌&&◌, List, [], ◌∷◌, drop, get_or, length, ap, sym, subst, ◌∙◌, arith, inl}
use Rattle.std.proofs.lemmas.Bool.Decides.{nat_tests}
use Rattle.normal_form.specs.declared.term.NormalTerm.{NormalTerm}
use Rattle.normal_form.specs.Normal.{NormalConstraint, coefficient, sum_over, only, same_sign, Rises}
use Rattle.normal_form.proofs.Sums.{rises_at}
use Rattle.substitution.specs.Part.{IsTermOf}
use Rattle.substitution.proofs.Pass.{coefficient_at, read_other}

lower : (x v c : ℕ) (b : Bool) → x < v → cond ((x == v) && b) c 0 ≡ 0
lower x v c b h = grind (arith, nat_tests)

passed_front : (low : ℕ) (ts : List NormalTerm) (i : ℕ) (d : NormalTerm) (v : ℕ) (s : Bool) → Rises low ts → i < length ts → (get_or ts i d).var.0 < v
    → (low < v) × (sum_over (only v s) ts ≡ sum_over (only v s) (drop (suc i) ts))
passed_front low [] i d v s r h k = absurd (omega (arith, h))
passed_front low (t ∷ ts) zero d v s r h k = (omega (arith, r.0, k), omega (arith, lower (t.var.0) v t.coef (same_sign s t.negated) k))
passed_front low (t ∷ ts) (suc i) d v s r h k =
    let rest = passed_front (t.var.0 + 1) ts i d v s r.2 (omega (arith, h)) k in
    (omega (arith, r.0, rest.0), omega (arith, lower (t.var.0) v t.coef (same_sign s t.negated) (omega (arith, rest.0)), rest.1))

next_place : (i : ℕ) → suc i ≡ i + 1
next_place i = omega arith

-- the terms up to one of a lower variable do not have the variable
pub passed_low : (ts : List NormalTerm) (i : ℕ) (u : NormalTerm) (v : ℕ) (s : Bool) → Rises 0 ts → i < length ts → u ≡ get_or ts i u → u.var.0 < v
    → sum_over (only v s) ts ≡ sum_over (only v s) (drop (i + 1) ts)
passed_low ts i u v s r h is k =
    let same : u.var.0 ≡ (get_or ts i u).var.0 = ap (λ (t : NormalTerm). t.var.0) is in
    (passed_front 0 ts i u v s r h (omega (arith, same, k))).1 ∙ ap (λ (j : ℕ). sum_over (only v s) (drop j ts)) (next_place i)

-- the place that was found has no term of the variable
pub other_term : (n : NormalConstraint) (v i : ℕ) (u : NormalTerm) → i < length n.terms → u ≡ get_or n.terms i u → Rises v (drop i n.terms) → ((s : Bool) → coefficient n v s ≡ sum_over (only v s) (drop i n.terms))
    → (u.var.0 ≡ v → ⊥) → (s : Bool) → coefficient n v s ≡ 0
other_term n v i u inside is ahead passed apart s = passed s ∙ sym (read_other n.terms i u inside is v s ahead (inl apart))

own_sum : (x v c : ℕ) (b : Bool) → cond ((x == v) && b) c 0 ≡ cond ((x == v) && b) c 0 + 0
own_sum x v c b = omega arith

-- or it has
pub found_term : (n : NormalConstraint) (v i : ℕ) (u : NormalTerm) → i < length n.terms → u ≡ get_or n.terms i u → Rises 0 n.terms → Rises v (drop i n.terms) → ((s : Bool) → coefficient n v s ≡ sum_over (only v s) (drop i n.terms))
    → u.var.0 ≡ v → IsTermOf n v u
found_term n v i u inside is rises ahead passed same = record {
  variable = same;
  counts = subst (λ (t : NormalTerm). 0 < t.coef) (sym is) (rises_at 0 n.terms i u rises inside);
  coefficients = λ s.
      passed s ∙ coefficient_at n.terms i u inside v s ahead
      ∙ ap (λ (t : NormalTerm). cond ((t.var.0 == v) && same_sign s t.negated) t.coef 0) (sym is)
      ∙ own_sum (u.var.0) v u.coef (same_sign s u.negated);
}

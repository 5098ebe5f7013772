-- The coefficients of terms, and that of a literal.
use Rattle.std.proofs.Common.{◌≡◌, ℕ, zero, suc, ◌+◌, ◌<◌, ◌≤◌, Bool, true, false, cond, List, [], ◌∷◌, length, get_or, refl, ap, sym, ◌∙◌, arith}
use Rattle.std.proofs.lemmas.List.{get_or_default}
use Rattle.normal_form.specs.declared.term.NormalTerm.{NormalTerm}
use Rattle.normal_form.specs.Normal.{Rises, only, sum_over, total}
use Rattle.normal_form.proofs.OneList.{absent}
use Rattle.normal_form.proofs.SetSums.{only_is}

-- a coefficient is part of the sum of all
pub below_total : (ts : List NormalTerm) (k : ℕ) (d : NormalTerm) → k < length ts → (get_or ts k d).coef ≤ total ts
below_total [] k d h = absurd (omega (arith, h))
below_total (t ∷ ts) zero d h = omega arith
below_total (t ∷ ts) (suc k) d h = omega (arith, below_total ts k d (omega (arith, h)))

one_or_none : (b : Bool) (c rest most : ℕ) → c ≤ most → rest ≤ most → (b ≡ true → rest ≡ 0) → cond b c 0 + rest ≤ most
one_or_none true c rest most h k e = omega (arith, h, e refl)
one_or_none false c rest most h k e = omega (arith, k)

-- where no term has a larger coefficient, no literal has
pub none_above : (low : ℕ) (ts : List NormalTerm) (most v : ℕ) (s : Bool) → Rises low ts → ((k : ℕ) (d : NormalTerm) → k < length ts → (get_or ts k d).coef ≤ most) → sum_over (only v s) ts ≤ most
none_above low [] most v s r all = omega arith
none_above low (t ∷ ts) most v s r all =
    one_or_none (only v s (t.var.0) t.negated) t.coef (sum_over (only v s) ts) most (all 0 t (omega arith)) (none_above (t.var.0 + 1) ts most v s r.2 (λ k d h. all (suc k) d (omega (arith, h))))
    (λ e. absent (t.var.0 + 1) ts r.2 v s (omega (arith, (only_is v (t.var.0) s t.negated e).0)))

-- a coefficient, whatever stands for a term that is not there
pub coefficient_there : (ts : List NormalTerm) (k i : ℕ) (d t : NormalTerm) → k ≡ i → i < length ts → t ≡ get_or ts i t → (get_or ts k d).coef ≡ t.coef
coefficient_there ts k i d t e h is = ap (λ (j : ℕ). (get_or ts j d).coef) e ∙ ap (λ (u : NormalTerm). u.coef) (get_or_default ts i d t h ∙ sym is)

-- The opposite literals of a constraint's terms, and its negation, which has them.
use Rattle.std.proofs.Common.{◌≡◌, ℕ, ◌+◌, ◌-◌, ◌<◌, ◌≤◌, Bool, true, false, cond, not, ◌==◌, ◌&&◌, List, [], ◌∷◌, ◌++◌, length, take, get_or, refl, ap, sym, subst, ◌∙◌, arith, inl, inr}
use Rattle.std.specs.Prelude.{◌↔◌}
use Rattle.std.proofs.lemmas.Bool.{cases_lt}
use Rattle.std.proofs.lemmas.List.{take_more}
use Rattle.linear.specs.Valuation.{Valuation, literal_true}
use Rattle.normal_form.specs.declared.term.NormalTerm.{NormalTerm}
use Rattle.normal_form.specs.Normal.{NormalConstraint, Holds, same_sign, sum_over, only, total, Rises, variable_bound, Fits, IsNormal, largest_sum}
use Rattle.normal_form.specs.Negation.{IsNegation}
use Rattle.normal_form.specs.Balance.{flipped_term, flipped}
use Rattle.normal_form.proofs.OneList.{one_list, same_constraint}

pub flipped_rises : (low : ℕ) (ts : List NormalTerm) → Rises low ts → Rises low (flipped ts)
flipped_rises low [] r = tt
flipped_rises low (t ∷ ts) r = (r.0, r.1, flipped_rises (t.var.0 + 1) ts r.2)

pub flipped_total : (ts : List NormalTerm) → total (flipped ts) ≡ total ts
flipped_total [] = refl
flipped_total (t ∷ ts) = ap (λ (x : ℕ). t.coef + x) (flipped_total ts)

flipped_own : (v w c : ℕ) (s n : Bool) → cond ((w == v) && same_sign s (not n)) c 0 ≡ cond ((w == v) && same_sign (not s) n) c 0
flipped_own v w c true true = refl
flipped_own v w c true false = refl
flipped_own v w c false true = refl
flipped_own v w c false false = refl

pub flipped_coefficient : (v : ℕ) (s : Bool) (ts : List NormalTerm) → sum_over (only v s) (flipped ts) ≡ sum_over (only v (not s)) ts
flipped_coefficient v s [] = refl
flipped_coefficient v s (t ∷ ts) = omega (arith, flipped_own v (t.var.0) t.coef s t.negated, flipped_coefficient v s ts)

flipped_weight_term : (x n : Bool) (c : ℕ) → cond (cond (not n) (not x) x) c 0 + cond (cond n (not x) x) c 0 ≡ c
flipped_weight_term true true c = omega arith
flipped_weight_term true false c = omega arith
flipped_weight_term false true c = omega arith
flipped_weight_term false false c = omega arith

-- of each literal and its opposite one is true
pub flipped_weight : (a : Valuation) (ts : List NormalTerm) → sum_over (literal_true a) (flipped ts) + sum_over (literal_true a) ts ≡ total ts
flipped_weight a [] = refl
flipped_weight a (t ∷ ts) = omega (arith, flipped_weight_term (a (t.var.0)) t.negated t.coef, flipped_weight a ts)

-- the negation has the opposite literals
pub negation_from : (n m : NormalConstraint) → Rises 0 n.terms → m.terms ≡ flipped n.terms → m.degree ≡ (total n.terms + 1) - n.degree → IsNegation n m
negation_from n m r e d = record {
  coefficients = λ v s. ap (λ (ts : List NormalTerm). sum_over (only v s) ts) e ∙ flipped_coefficient v s n.terms;
  degree = d;
  rises = subst (λ (ts : List NormalTerm). Rises 0 ts) (sym e) (flipped_rises 0 n.terms r);
}

pub negation_terms : (n m : NormalConstraint) → Rises 0 n.terms → IsNegation n m → m.terms ≡ flipped n.terms
negation_terms n m r g = one_list 0 0 m.terms (flipped n.terms) g.rises (flipped_rises 0 n.terms r) (λ v s. g.coefficients v s ∙ sym (flipped_coefficient v s n.terms))

pub one_negation : (n m k : NormalConstraint) → Rises 0 n.terms → IsNegation n m → IsNegation n k → m ≡ k
one_negation n m k r g h = same_constraint m k (negation_terms n m r g ∙ sym (negation_terms n k r h)) (g.degree ∙ sym h.degree)

lighter : (n m : NormalConstraint) (a : Valuation) → sum_over (literal_true a) m.terms + sum_over (literal_true a) n.terms ≡ total n.terms → m.degree ≡ (total n.terms + 1) - n.degree → (Holds a n → ⊥) → Holds a m
lighter n m a w d h = elim (cases_lt (sum_over (literal_true a) n.terms) n.degree) [ inl k ↦ omega (arith, w, d, k) | inr k ↦ absurd (h k) ]

pub negation_meaning : (n m : NormalConstraint) → Rises 0 n.terms → IsNegation n m → (a : Valuation) → Holds a m ↔ (Holds a n → ⊥)
negation_meaning n m r g a =
    let w : sum_over (literal_true a) m.terms + sum_over (literal_true a) n.terms ≡ total n.terms = ap (λ (ts : List NormalTerm). sum_over (literal_true a) ts + sum_over (literal_true a) n.terms) (negation_terms n m r g) ∙ flipped_weight a n.terms in
    (λ h k. omega (arith, g.degree, w, h, k), λ h. lighter n m a w g.degree h)

pub flipped_bound : (ts : List NormalTerm) → variable_bound (flipped ts) ≡ variable_bound ts
flipped_bound [] = refl
flipped_bound (t ∷ ts) = omega (arith, flipped_bound ts)

flipped_push : (ts : List NormalTerm) (t : NormalTerm) → flipped (ts ++ t ∷ []) ≡ flipped ts ++ flipped_term t ∷ []
flipped_push [] t = refl
flipped_push (x ∷ xs) t = ap (λ (us : List NormalTerm). flipped_term x ∷ us) (flipped_push xs t)

pub flipped_more : (ts : List NormalTerm) (i : ℕ) (d : NormalTerm) → i < length ts → flipped (take (i + 1) ts) ≡ flipped (take i ts) ++ flipped_term (get_or ts i d) ∷ []
flipped_more ts i d h = ap flipped (take_more ts i d h) ∙ flipped_push (take i ts) (get_or ts i d)

-- where the negation does not fit, the degree is 0 and the coefficient sum the limit
pub not_fitting : (n : NormalConstraint) (ts : List NormalTerm) (degree : ℕ) → IsNormal n → ts ≡ flipped n.terms → degree ≡ (total n.terms + 1) - n.degree → (Fits (record { terms = ts; degree = degree }) → ⊥) → (n.degree ≡ 0) × (total n.terms ≡ largest_sum)
not_fitting n ts degree normal e d h =
    let sum : total ts ≤ largest_sum = omega (arith, normal.fits.sum, ap total e, flipped_total n.terms) in
    elim (cases_lt largest_sum degree) [
      | inl k ↦ (omega (arith, k, d, normal.fits.sum), omega (arith, k, d, normal.fits.sum))
      | inr k ↦ absurd (h (record { sum = sum; degree = k }))
    ]

pub negation : NormalConstraint → NormalConstraint
negation n = record { terms = flipped n.terms; degree = (total n.terms + 1) - n.degree }

pub negation_is : (n : NormalConstraint) → Rises 0 n.terms → IsNegation n (negation n)
unfolding negation
negation_is n r = negation_from n (negation n) r refl refl

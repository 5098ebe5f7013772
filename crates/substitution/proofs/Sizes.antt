-- A constraint under a substitution is no larger: neither its coefficient sum nor its degree.
use Rattle.std.proofs.Common.{◌≡◌, ℕ, ◌+◌, ◌≤◌, Bool, true, false, cond, List, [], ◌∷◌, ◌++◌, map, refl, arith}
use Rattle.std.specs.Prelude.{ℤ, pos, negsuc, neg_ℤ, ◌+ℤ◌, ◌-ℤ◌, ◌≤ℤ◌}
use Rattle.std.proofs.lemmas.Int.{ints}
use Rattle.linear.specs.declared.term.Term.{Term}
use Rattle.normal_form.specs.declared.term.NormalTerm.{NormalTerm}
use Rattle.normal_form.specs.Normal.{NormalConstraint, sum_over, total}
use Rattle.normal_form.specs.NormalOf.{at_least_zero, negated_sum, size_sum}
use Rattle.normal_form.specs.Balance.{slopes, rises_of}
use Rattle.normal_form.proofs.NormalForm.{form_balances, form_sum}
use Rattle.substitution.specs.declared.image.Image.{Image}
use Rattle.substitution.specs.declared.image.Image.TheVariants.{Lit, Zero, One}
use Rattle.substitution.specs.Images.{Images, image_of_literal}
use Rattle.substitution.specs.Under.{term_at, constant_at, terms_under, constant_under, signed_term, substituted, IsUnder}

size_at : (c : ℕ) (i : Image) (rest : List Term) → (pos (size_sum (term_at (pos c) i ++ rest)) +ℤ constant_at (pos c) i) ≤ℤ (pos c +ℤ pos (size_sum rest))
size_at c (Lit l) rest = omega (arith, ints)
size_at c Zero rest = omega (arith, ints)
size_at c One rest = omega (arith, ints)

-- what is left of the coefficients, and what is constant
pub size_under : (images : Images) (ts : List NormalTerm) → (pos (size_sum (terms_under images (map signed_term ts))) +ℤ constant_under images (map signed_term ts)) ≤ℤ pos (total ts)
size_under images [] = omega (arith, ints)
size_under images (t ∷ ts) =
    omega (arith, ints, size_at t.coef (image_of_literal images (t.var.0) t.negated) (terms_under images (map signed_term ts)), size_under images ts)

constant_at_least : (c : ℕ) (i : Image) → pos 0 ≤ℤ constant_at (pos c) i
constant_at_least c (Lit l) = omega (arith, ints)
constant_at_least c Zero = omega (arith, ints)
constant_at_least c One = omega (arith, ints)

pub constant_not_negative : (images : Images) (ts : List NormalTerm) → pos 0 ≤ℤ constant_under images (map signed_term ts)
constant_not_negative images [] = omega (arith, ints)
constant_not_negative images (t ∷ ts) =
    omega (arith, ints, constant_at_least t.coef (image_of_literal images (t.var.0) t.negated), constant_not_negative images ts)

signed_slope : (c : ℕ) (n : Bool) → cond n (neg_ℤ (pos c)) (pos c) +ℤ (cond n (pos c) (pos 0) +ℤ cond n (pos c) (pos 0)) ≡ pos c
signed_slope c true = omega (arith, ints)
signed_slope c false = omega (arith, ints)

slope_at : (c : ℕ) (i : Image) (rest : List Term) → slopes (λ _. true) rest +ℤ (negated_sum rest +ℤ negated_sum rest) ≡ pos (size_sum rest) → slopes (λ _. true) (term_at (pos c) i ++ rest) +ℤ (negated_sum (term_at (pos c) i ++ rest) +ℤ negated_sum (term_at (pos c) i ++ rest)) ≡ pos (size_sum (term_at (pos c) i ++ rest))
slope_at c (Lit l) rest h = omega (arith, ints, h, signed_slope c l.negated)
slope_at c Zero rest h = h
slope_at c One rest h = h

-- with no coefficient below 0, plain and negated ones are all there is
slopes_under : (images : Images) (ts : List NormalTerm) → slopes (λ _. true) (terms_under images (map signed_term ts)) +ℤ (negated_sum (terms_under images (map signed_term ts)) +ℤ negated_sum (terms_under images (map signed_term ts))) ≡ pos (size_sum (terms_under images (map signed_term ts)))
slopes_under images [] = refl
slopes_under images (t ∷ ts) =
    slope_at t.coef (image_of_literal images (t.var.0) t.negated) (terms_under images (map signed_term ts)) (slopes_under images ts)

rise_parts : (c : ℕ) (n : Bool) → cond n (neg_ℤ (pos c)) (pos c) +ℤ pos (cond n c 0 + cond n c 0) ≡ pos c
rise_parts c true = omega (arith, ints)
rise_parts c false = omega (arith, ints)

all_rises : (ts : List NormalTerm) → rises_of (λ _. true) ts +ℤ pos (sum_over (λ _ negated. negated) ts + sum_over (λ _ negated. negated) ts) ≡ pos (total ts)
all_rises [] = refl
all_rises (t ∷ ts) = omega (arith, ints, rise_parts t.coef t.negated, all_rises ts)

floor_small : (z : ℤ) (n : ℕ) → z ≤ℤ pos n → at_least_zero z ≤ n
floor_small (pos m) n h = omega (arith, ints, h)
floor_small (negsuc m) n h = omega (arith, ints, h)

pub sum_no_larger : (n r : NormalConstraint) (images : Images) → IsUnder n images r → total r.terms ≤ total n.terms
sum_no_larger n r images f =
    omega (arith, ints, form_sum (substituted n images) r f, size_under images n.terms, constant_not_negative images n.terms)

-- the negated coefficients of the form are at most those of the terms: their difference from the plain ones is the
-- same, and all together are no more
pub degree_no_larger : (n r : NormalConstraint) (images : Images) → IsUnder n images r → r.degree ≤ n.degree
degree_no_larger n r images f =
    let balance = form_balances (substituted n images) r f (λ _. true) in
    let sum = form_sum (substituted n images) r f in
    let less : pos (sum_over (λ _ negated. negated) r.terms) ≤ℤ negated_sum (terms_under images (map signed_term n.terms)) =
    omega (arith, ints, balance, sum, slopes_under images n.terms, all_rises r.terms) in
    let bound = floor_small (((pos n.degree -ℤ constant_under images (map signed_term n.terms)) -ℤ negated_sum (terms_under images (map signed_term n.terms))) +ℤ pos (sum_over (λ _ negated. negated) r.terms)) n.degree
    (omega (arith, ints, less, constant_not_negative images n.terms)) in
    omega (arith, bound, f.degree)

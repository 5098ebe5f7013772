-- Each signed constraint has exactly one normal form, which holds exactly where the constraint is met.
use Rattle.std.proofs.Common.{◌≡◌, ℕ, ◌+◌, ◌≤◌, Bool, true, false, List, refl, ap, sym, subst, ◌∙◌, arith, inl, inr}
use Rattle.std.specs.Prelude.{ℤ, pos, negsuc, ◌≤ℤ◌, unsigned_abs, ◌↔◌}
use Rattle.std.proofs.lemmas.Int.{ints}
use Rattle.linear.specs.declared.constraint.Relation.{Relation}
use Rattle.linear.specs.declared.constraint.Relation.TheVariants.{AtLeast}
use Rattle.linear.specs.declared.constraint.Signed.{Signed}
use Rattle.linear.specs.Valuation.{Valuation}
use Rattle.linear.specs.Sum.{sum_of, Relates, Meets}
use Rattle.normal_form.specs.declared.term.NormalTerm.{NormalTerm}
use Rattle.normal_form.specs.Normal.{NormalConstraint, Holds, total, coefficient, Rises, Fits, largest_sum}
use Rattle.normal_form.specs.NormalOf.{IsNormalOf, IsTooLarge, at_least_zero, size_sum}
use Rattle.normal_form.specs.Balance.{Balances, rises_of}
use Rattle.normal_form.proofs.OneList.{one_list, same_constraint}
use Rattle.normal_form.proofs.FromBalance.{coefficients_from, raised, holds_from, meets_from}
use Rattle.normal_form.proofs.BalancedList.{formed, formed_balances, formed_rises, formed_total, formed_negated}

-- terms that balance and rise, with the degree of the definition, are a normal form
pub is_form : (c : Signed) (n : NormalConstraint) → Rises 0 n.terms → Balances c.terms n.terms → n.degree ≡ at_least_zero (raised c.right c.terms n.terms) → IsNormalOf c n
is_form c n r b d = record {
  plain = λ v. (coefficients_from c.terms n.terms r b v).0;
  negated = λ v. (coefficients_from c.terms n.terms r b v).1;
  degree = d;
  rises = r;
}

pub form : Signed → NormalConstraint
form c = record { terms = formed c.terms; degree = at_least_zero (raised c.right c.terms (formed c.terms)) }

pub form_is : (c : Signed) → IsNormalOf c (form c)
unfolding form
form_is c = is_form c (form c) (formed_rises c.terms) (formed_balances c.terms) refl

same_sides : (n m : NormalConstraint) (v : ℕ) (s : Bool) → coefficient n v false ≡ coefficient m v false → coefficient n v true ≡ coefficient m v true → coefficient n v s ≡ coefficient m v s
same_sides n m v true f t = t
same_sides n m v false f t = f

pub same_terms : (c : Signed) (n m : NormalConstraint) → IsNormalOf c n → IsNormalOf c m → n.terms ≡ m.terms
same_terms c n m f g = one_list 0 0 n.terms m.terms f.rises g.rises (λ v s. same_sides n m v s (f.plain v ∙ sym (g.plain v)) (f.negated v ∙ sym (g.negated v)))

pub one_form : (c : Signed) (n m : NormalConstraint) → IsNormalOf c n → IsNormalOf c m → n ≡ m
one_form c n m f g =
    let ts : n.terms ≡ m.terms = same_terms c n m f g in
    same_constraint n m ts (f.degree ∙ ap (λ (xs : List NormalTerm). at_least_zero (raised c.right c.terms xs)) ts ∙ sym g.degree)

pub form_balances : (c : Signed) (n : NormalConstraint) → IsNormalOf c n → Balances c.terms n.terms
unfolding form
form_balances c n f set = ap (λ (xs : List NormalTerm). rises_of set xs) (same_terms c n (form c) f (form_is c)) ∙ formed_balances c.terms set

relates : (r : Relation) (sum right : ℤ) → r ≡ AtLeast → (right ≤ℤ sum) ↔ Relates r sum right
relates r sum right e = subst (λ (x : Relation). (right ≤ℤ sum) ↔ Relates x sum right) (sym e) (λ h. h, λ h. h)

pub form_meaning : (c : Signed) (n : NormalConstraint) → c.relation ≡ AtLeast → IsNormalOf c n → (a : Valuation) → Holds a n ↔ Meets a c
form_meaning c n e f a =
    let way : (c.right ≤ℤ sum_of a c.terms) ↔ Meets a c = relates c.relation (sum_of a c.terms) c.right e in
    (λ h. way.0 (holds_from c.right c.terms n (form_balances c n f) f.degree a h), λ h. meets_from c.right c.terms n (form_balances c n f) f.degree a (way.1 h))

floor_small : (z : ℤ) (n : ℕ) → z ≤ℤ (pos n) → at_least_zero z ≤ n
floor_small (pos m) n h = omega (arith, ints, h)
floor_small (negsuc m) n h = omega (arith, ints, h)

-- where all sizes together are within the limit, so is the normal form
pub form_fits : (c : Signed) (n : NormalConstraint) → IsNormalOf c n → size_sum c.terms + unsigned_abs c.right ≤ largest_sum → Fits n
unfolding form
form_fits c n f small =
    let e : n ≡ form c = one_form c n (form c) f (form_is c) in
    let sum : total (formed c.terms) ≤ largest_sum = omega (arith, formed_total c.terms, small) in
    let degree : at_least_zero (raised c.right c.terms (formed c.terms)) ≤ largest_sum = floor_small (raised c.right c.terms (formed c.terms)) (largest_sum) (omega (arith, ints, formed_negated c.terms, small)) in
    subst (λ (m : NormalConstraint). Fits m) (sym e) (record { sum = sum; degree = degree })

-- with no size above the limit, the coefficient sum of a normal form is within it
pub form_sum : (c : Signed) (n : NormalConstraint) → IsNormalOf c n → total n.terms ≤ size_sum c.terms
unfolding form
form_sum c n f = subst (λ (ts : List NormalTerm). total ts ≤ size_sum c.terms) (sym (same_terms c n (form c) f (form_is c))) (formed_total c.terms)

pub not_too_large : (c : Signed) (n : NormalConstraint) → IsNormalOf c n → Fits n → size_sum c.terms ≤ largest_sum → IsTooLarge c → ⊥
not_too_large c n f fits small (inl h) = omega (arith, h, small)
not_too_large c n f fits small (inr h) = h.1.breaks (subst (λ (m : NormalConstraint). Fits m) (one_form c n h.0 f h.1.form) fits)

pub small_never : (c : Signed) → size_sum c.terms + unsigned_abs c.right ≤ largest_sum → IsTooLarge c → ⊥
small_never c small (inl h) = omega (arith, h, small)
small_never c small (inr h) = h.1.breaks (form_fits c h.0 h.1.form small)

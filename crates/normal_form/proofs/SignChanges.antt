-- Signed constraints with all signs changed: their sums and sizes, and what both forms of an equality mean.
use Rattle.std.proofs.Common.{◌≡◌, ℕ, ◌+◌, ◌≤◌, Bool, true, false, cond, not, List, [], ◌∷◌, map, refl, sym, subst, arith}
use Rattle.std.specs.Prelude.{ℤ, pos, neg_ℤ, ◌≤ℤ◌, unsigned_abs, ◌↔◌}
use Rattle.std.proofs.lemmas.Int.{ints}
use Rattle.linear.specs.declared.term.Term.{Term}
use Rattle.linear.specs.declared.constraint.Relation.{Relation}
use Rattle.linear.specs.declared.constraint.Relation.TheVariants.{Equal}
use Rattle.linear.specs.declared.constraint.Signed.{Signed}
use Rattle.linear.specs.Valuation.{Valuation, literal_true}
use Rattle.linear.specs.Sum.{sum_of, Relates, Meets}
use Rattle.normal_form.specs.declared.term.NormalTerm.{NormalTerm}
use Rattle.normal_form.specs.Normal.{NormalConstraint, Holds, largest_sum}
use Rattle.normal_form.specs.NormalOf.{IsBothOf, IsTooLarge, sign_changed, signs_changed, negated_sum, size_sum}
use Rattle.normal_form.specs.Balance.{Balances, rises_of, slopes, flipped}
use Rattle.normal_form.proofs.FromBalance.{holds_from, meets_from}
use Rattle.normal_form.proofs.NormalForm.{form_balances, small_never}

sign_changed_worth : (b : Bool) (z : ℤ) → cond b (neg_ℤ z) (pos 0) ≡ neg_ℤ (cond b z (pos 0))
sign_changed_worth true z = refl
sign_changed_worth false z = refl

pub sign_changed_sum : (a : Valuation) (ts : List Term) → sum_of a (map sign_changed ts) ≡ neg_ℤ (sum_of a ts)
sign_changed_sum a [] = refl
sign_changed_sum a (t ∷ ts) = omega (arith, ints, sign_changed_worth (literal_true a (t.var.0) t.negated) t.coef, sign_changed_sum a ts)

sign_changed_slope : (b n : Bool) (z : ℤ) → cond b (cond n (neg_ℤ (neg_ℤ z)) (neg_ℤ z)) (pos 0) ≡ neg_ℤ (cond b (cond n (neg_ℤ z) z) (pos 0))
sign_changed_slope true true z = omega (arith, ints)
sign_changed_slope true false z = omega (arith, ints)
sign_changed_slope false n z = omega (arith, ints)

pub sign_changed_slopes : (set : ℕ → Bool) (ts : List Term) → slopes set (map sign_changed ts) ≡ neg_ℤ (slopes set ts)
sign_changed_slopes set [] = refl
sign_changed_slopes set (t ∷ ts) = omega (arith, ints, sign_changed_slope (set (t.var.0)) t.negated t.coef, sign_changed_slopes set ts)

pub sign_changed_negated : (ts : List Term) → negated_sum (map sign_changed ts) ≡ neg_ℤ (negated_sum ts)
sign_changed_negated [] = refl
sign_changed_negated (t ∷ ts) = omega (arith, ints, sign_changed_worth t.negated t.coef, sign_changed_negated ts)

sign_changed_size : (z : ℤ) → unsigned_abs (neg_ℤ z) ≡ unsigned_abs z
sign_changed_size z = omega (arith, ints)

pub sign_changed_sizes : (ts : List Term) → size_sum (map sign_changed ts) ≡ size_sum ts
sign_changed_sizes [] = refl
sign_changed_sizes (t ∷ ts) = omega (arith, sign_changed_size t.coef, sign_changed_sizes ts)

flipped_gives_term : (b n : Bool) (c : ℕ) → cond b (cond (not n) (neg_ℤ (pos c)) (pos c)) (pos 0) ≡ neg_ℤ (cond b (cond n (neg_ℤ (pos c)) (pos c)) (pos 0))
flipped_gives_term true true c = omega (arith, ints)
flipped_gives_term true false c = omega (arith, ints)
flipped_gives_term false n c = omega (arith, ints)

pub flipped_gives : (set : ℕ → Bool) (ts : List NormalTerm) → rises_of set (flipped ts) ≡ neg_ℤ (rises_of set ts)
flipped_gives set [] = refl
flipped_gives set (t ∷ ts) = omega (arith, ints, flipped_gives_term (set (t.var.0)) t.negated t.coef, flipped_gives set ts)

pub flipped_balances : (terms : List Term) (ts : List NormalTerm) → Balances terms ts → Balances (map sign_changed terms) (flipped ts)
flipped_balances terms ts b set = omega (arith, ints, flipped_gives set ts, sign_changed_slopes set terms, b set)

equals : (r : Relation) (sum right : ℤ) → r ≡ Equal → (sum ≡ right) ↔ Relates r sum right
equals r sum right e = subst (λ (x : Relation). (sum ≡ right) ↔ Relates x sum right) (sym e) (λ h. h, λ h. h)

pub both_meaning : (c : Signed) (n m : NormalConstraint) → c.relation ≡ Equal → IsBothOf c n m → (a : Valuation) → (Holds a n × Holds a m) ↔ Meets a c
both_meaning c n m e f a =
    let way : (sum_of a c.terms ≡ c.right) ↔ Meets a c = equals c.relation (sum_of a c.terms) c.right e in (
      λ h.
          let up : c.right ≤ℤ sum_of a c.terms = holds_from c.right c.terms n (form_balances c n f.at_least) f.at_least.degree a h.0 in
          let down : neg_ℤ c.right ≤ℤ sum_of a (map sign_changed c.terms) = holds_from (neg_ℤ c.right) (map sign_changed c.terms) m (form_balances (signs_changed c) m f.at_most) f.at_most.degree a h.1 in
          way.0 (omega (arith, ints, up, down, sign_changed_sum a c.terms)),
      λ h.
          let is : sum_of a c.terms ≡ c.right = way.1 h in (
            meets_from c.right c.terms n (form_balances c n f.at_least) f.at_least.degree a (omega (arith, ints, is)),
            meets_from (neg_ℤ c.right) (map sign_changed c.terms) m (form_balances (signs_changed c) m f.at_most) f.at_most.degree a (omega (arith, ints, is, sign_changed_sum a c.terms)),
          ),
    )

-- nor is the constraint with all signs changed too large
pub signs_changed_never : (c : Signed) → size_sum c.terms + unsigned_abs c.right ≤ largest_sum → IsTooLarge (signs_changed c) → ⊥
signs_changed_never c small = small_never (signs_changed c) (omega (arith, sign_changed_sizes c.terms, sign_changed_size c.right, small))

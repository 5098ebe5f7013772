use Rattle.std.proofs.Common.{◌≡◌, ℕ, ◌+◌, ◌-◌, ◌^◌, ◌<◌, Bool, true, false, if◌then◌else◌, pos, neg_ℤ, ◌+ℤ◌, [], ◌∷◌, refl, subst, arith}
use Rattle.std.proofs.lemmas.Int.{ints}
use Rattle.normal_form.specs.Cases.{plain, negated, normal}
use Rattle.normal_form.specs.Normal.{NormalConstraint, Fits}
use Rattle.normal_form.specs.NormalOf.{IsNormalOf}
use Rattle.normal_form.proofs.NormalForm.{is_form, one_form}
use Rattle.proof_rules.specs.Cases.{written_twice, written_below_zero}
use Rattle.proof_rules.specs.Shown.{IsAdmitted}
use Rattle.proof_rules.proofs.step_fault_cases.limits_of_a_written_constraint.Goals as goal

pub returns-clause-sizes : goal.returns-clause-sizes
returns-clause-sizes c n admitted = omega (arith, admitted.sizes)

-- k x0 >= 0
abbrev once : ℕ → NormalConstraint
once k = normal (plain k 0 ∷ []) 0

-- whether x0 is in a set
twice_balances : (k : ℕ) (b : Bool) → (if b then pos k else pos 0) +ℤ pos 0 ≡ (if b then pos (k + 1) else pos 0) +ℤ ((if b then neg_ℤ (pos 1) else pos 0) +ℤ pos 0)
twice_balances k true = omega (arith, ints)
twice_balances k false = refl

twice_is_form : (k : ℕ) → 0 < k → IsNormalOf (written_twice (k + 1)) (once k)
twice_is_form k positive = is_form (written_twice (k + 1)) (once k) (omega arith, positive, tt) (λ set. twice_balances k (set 0)) refl

pub returns-clause-form_fits : goal.returns-clause-form_fits
returns-clause-form_fits c = (once (2 ^ 120 - 1), twice_is_form (2 ^ 120 - 1) (omega arith), record { sum = omega arith; degree = omega arith })

twice_admitted : IsAdmitted (written_twice (2 ^ 120 - 1)) (once (2 ^ 120 - 2))
twice_admitted = record {
  relation = refl;
  sizes = omega arith;
  form = twice_is_form (2 ^ 120 - 2) (omega arith);
  fits = record { sum = omega arith; degree = omega arith };
}

pub returns-clause-sizes_at_the_limit : goal.returns-clause-sizes_at_the_limit
returns-clause-sizes_at_the_limit c h = h (once (2 ^ 120 - 2)) twice_admitted

abbrev above : NormalConstraint
above = normal (negated (2 ^ 120) 0 ∷ []) (2 ^ 120 + 1)

above_is_form : IsNormalOf (written_below_zero 1) above
above_is_form = is_form (written_below_zero 1) above (omega arith, omega arith, tt) (λ set. refl) refl

pub returns-clause-sizes_fit : goal.returns-clause-sizes_fit
returns-clause-sizes_fit c = omega arith

pub returns-clause-degree : goal.returns-clause-degree
returns-clause-degree c n admitted =
    let same : n ≡ above = one_form (written_below_zero 1) n above admitted.form above_is_form in
    let degree = (subst Fits same admitted.fits).degree in
    omega (arith, degree)

abbrev below : NormalConstraint
below = normal (negated (2 ^ 120) 0 ∷ []) (2 ^ 120)

below_admitted : IsAdmitted (written_below_zero 0) below
below_admitted = record {
  relation = refl;
  sizes = omega arith;
  form = is_form (written_below_zero 0) below (omega arith, omega arith, tt) (λ set. refl) refl;
  fits = record { sum = omega arith; degree = omega arith };
}

pub returns-clause-degree_at_the_limit : goal.returns-clause-degree_at_the_limit
returns-clause-degree_at_the_limit c h = h below below_admitted

-- Small problems whose variables may, or may not, change places.
use Rattle.std.proofs.Common.{◌≡◌, ℕ, zero, suc, Bool, true, false, [], ◌∷◌, refl, sym, ap, subst, ◌∙◌, arith}
use Rattle.std.proofs.lemmas.Bool.Decides.{nat_tests}
use Rattle.linear.specs.declared.constraint.Signed.{Signed}
use Rattle.std.proofs.lemmas.Int.{ints}
use Rattle.normal_form.specs.Cases.{plain, normal}
use Rattle.normal_form.specs.Normal.{NormalConstraint, coefficient}
use Rattle.normal_form.specs.NormalOf.{IsNormalOf}
use Rattle.normal_form.proofs.NormalForm.{form, form_is, is_form, one_form}
use Rattle.presolve.specs.Cases.{first_alone, one_of_two, second_alone, weighted}
use Rattle.presolve.specs.Standing.{IsFormOf}
use Rattle.presolve.specs.Swapping.{IsExchange, IsFormIn, IsSymmetric, exchanged}

-- a form in a file of one constraint is one of that
of_one : (c : Signed) (n : NormalConstraint) → IsFormIn (c ∷ []) n → IsFormOf c n
of_one c n (zero, k, lt, e, f) = subst (λ x. IsFormOf x n) (sym e) f
of_one c n (suc i, k, lt, e, f) = absurd (omega (arith, lt))

in_one : (c : Signed) (n : NormalConstraint) → IsFormOf c n → IsFormIn (c ∷ []) n
in_one c n f = (0, c, omega arith, refl, f)

both_signs : (n : NormalConstraint) → coefficient n 0 false ≡ coefficient n 1 false → coefficient n 0 true ≡ coefficient n 1 true → (s : Bool) → coefficient n 0 s ≡ coefficient n 1 s
both_signs n f t true = t
both_signs n f t false = f

-- a constraint whose first two variables are alike
same_after : (n : NormalConstraint) → ((s : Bool) → coefficient n 0 s ≡ coefficient n 1 s) → IsExchange 0 1 n n
same_after n e = record { coefficients = by; degree = refl }
  where
    by : (v : ℕ) (s : Bool) → coefficient n v s ≡ coefficient n (exchanged 0 1 v) s
    by zero s = e s
    by (suc zero) s = sym (e s)
    by (suc (suc v)) s = let kept : exchanged 0 1 (suc (suc v)) ≡ suc (suc v) = grind (arith, nat_tests) in ap (λ k. coefficient n k s) (sym kept)

pub alike_symmetric : IsSymmetric (one_of_two ∷ []) 0 1
alike_symmetric n f =
    let is : IsNormalOf one_of_two n = of_one one_of_two n f in
    (n, f, same_after n (both_signs n (is.plain 0 ∙ sym (is.plain 1)) (is.negated 0 ∙ sym (is.negated 1))))

pub unlike_asymmetric : IsSymmetric (weighted ∷ []) 0 1 → ⊥
unlike_asymmetric symmetric =
    let other = symmetric (form weighted) (in_one weighted (form weighted) (form_is weighted)) in
    let is : IsNormalOf weighted other.0 = of_one weighted other.0 other.1 in
    omega (arith, is.plain 0, other.2.coefficients 0 false, (form_is weighted).plain 1)

-- the forms of 1 x0 >= 1 and 1 x1 >= 1
abbrev first_form : NormalConstraint
first_form = normal (plain 1 0 ∷ []) 1

abbrev second_form : NormalConstraint
second_form = normal (plain 1 1 ∷ []) 1

first_is : IsNormalOf first_alone first_form
first_is = is_form first_alone first_form (omega arith, omega arith, tt) (λ set. omega (arith, ints)) refl

second_is : IsNormalOf second_alone second_form
second_is = is_form second_alone second_form (omega arith, omega arith, tt) (λ set. omega (arith, ints)) refl

-- they become one another
first_moved : IsExchange 0 1 first_form second_form
first_moved = record { coefficients = by; degree = refl }
  where
    by : (v : ℕ) (s : Bool) → coefficient second_form v s ≡ coefficient first_form (exchanged 0 1 v) s
    by zero s = refl
    by (suc zero) s = by_sign s
      where
        by_sign : (s : Bool) → coefficient second_form 1 s ≡ coefficient first_form 0 s
        by_sign true = refl
        by_sign false = refl
    by (suc (suc v)) s = grind (arith, nat_tests)

second_moved : IsExchange 0 1 second_form first_form
second_moved = record { coefficients = by; degree = refl }
  where
    by : (v : ℕ) (s : Bool) → coefficient first_form v s ≡ coefficient second_form (exchanged 0 1 v) s
    by zero true = refl
    by zero false = refl
    by (suc zero) s = refl
    by (suc (suc v)) s = grind (arith, nat_tests)

pub each_symmetric : IsSymmetric (first_alone ∷ second_alone ∷ []) 0 1
each_symmetric n (zero, c, lt, e, f) =
    let same : n ≡ first_form = one_form first_alone n first_form (subst (λ x. IsFormOf x n) (sym e) f) first_is in
    (second_form, (1, second_alone, omega arith, refl, second_is), subst (λ k. IsExchange 0 1 k second_form) (sym same) first_moved)
each_symmetric n (suc zero, c, lt, e, f) =
    let same : n ≡ second_form = one_form second_alone n second_form (subst (λ x. IsFormOf x n) (sym e) f) second_is in
    (first_form, (0, first_alone, omega arith, refl, first_is), subst (λ k. IsExchange 0 1 k first_form) (sym same) second_moved)
each_symmetric n (suc (suc i), c, lt, e, f) = absurd (omega (arith, lt))

pub lopsided_asymmetric : IsSymmetric (first_alone ∷ []) 0 1 → ⊥
lopsided_asymmetric symmetric =
    let other = symmetric first_form (in_one first_alone first_form first_is) in
    let is : IsNormalOf first_alone other.0 = of_one first_alone other.0 other.1 in
    omega (arith, is.plain 0, other.2.coefficients 0 false)

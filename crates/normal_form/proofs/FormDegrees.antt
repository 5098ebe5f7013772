-- The degree that the code gives is that of the form, or both are above the limit.
use Rattle.std.proofs.Common.{◌≡◌, ℕ, ◌-◌, ◌^◌, ◌≤◌, min, List, refl, ap, sym, subst, inr, ◌∙◌, arith, Result, Ok, Err, IfOk, OnErr}
use Rattle.std.specs.Prelude.{ℤ}
use Rattle.linear.specs.declared.term.Term.{Term}
use Rattle.linear.specs.declared.constraint.Signed.{Signed}
use Rattle.normal_form.specs.declared.term.NormalTerm.{NormalTerm}
use Rattle.normal_form.specs.Normal.{NormalConstraint, Rises, Fits, IsNormal, total, largest_sum}
use Rattle.normal_form.specs.NormalOf.{IsNormalOf, IsTooLarge, at_least_zero, size_sum}
use Rattle.normal_form.specs.Balance.{Balances}
use Rattle.normal_form.proofs.FromBalance.{raised}
use Rattle.normal_form.proofs.NormalForm.{is_form, form_sum}

constraint : List NormalTerm → ℕ → NormalConstraint
constraint ts degree = record { terms = ts; degree = degree }

-- the coefficient sum of merged terms is within the limit
pub merged_total : (c : Signed) (ts : List NormalTerm) → Rises 0 ts → Balances c.terms ts → size_sum c.terms ≤ largest_sum → total ts ≤ largest_sum
unfolding constraint
merged_total c ts r b h = omega (arith, h, form_sum c (constraint ts (at_least_zero (raised c.right c.terms ts))) (is_form c (constraint ts (at_least_zero (raised c.right c.terms ts))) r b refl))

-- what fits is the form itself
pub result_form : (c : Signed) (n : NormalConstraint) (ts : List NormalTerm) (degree : ℕ) → Balances c.terms ts → degree ≡ min (at_least_zero (raised c.right c.terms ts)) (2 ^ 127 - 1) → n.terms ≡ ts → n.degree ≡ degree → IsNormal n → IsNormalOf c n
result_form c n ts degree b d e f normal =
    let small : n.degree ≤ largest_sum = normal.fits.degree in
    let is : n.degree ≡ at_least_zero (raised c.right c.terms ts) = omega (arith, d, f, small) in
    is_form c n normal.rises (subst (λ (xs : List NormalTerm). Balances c.terms xs) (sym e) b) (is ∙ ap (λ (xs : List NormalTerm). at_least_zero (raised c.right c.terms xs)) (sym e))

-- where that does not fit, the form does not
pub result_too_large : (c : Signed) (ts : List NormalTerm) (degree : ℕ) → Rises 0 ts → Balances c.terms ts → degree ≡ min (at_least_zero (raised c.right c.terms ts)) (2 ^ 127 - 1) → (Fits (record { terms = ts; degree = degree }) → ⊥) → IsTooLarge c
unfolding constraint
result_too_large c ts degree r b d h =
    let n : NormalConstraint = constraint ts (at_least_zero (raised c.right c.terms ts)) in
    inr (n, record { form = is_form c n r b refl; breaks = λ f. h (record { sum = f.sum; degree = omega (arith, d, f.degree) }) })

-- clauses on an `Ok` together give another
pub if_ok_from : {T E : Type 0} (r : Result T E) (P Q R S : T → Type 0) → ((x : T) → P x → Q x → R x → S x) → IfOk r P → IfOk r Q → IfOk r R → IfOk r S
if_ok_from (Ok x) P Q R S f p q s = f x p q s
if_ok_from (Err e) P Q R S f p q s = tt

pub on_err_from : {T E P Q : Type 0} (r : Result T E) → (P → Q) → OnErr r P → OnErr r Q
on_err_from (Ok x) f p = tt
on_err_from (Err e) f p = f p

pub on_err_at : {T E : Type 0} (P : Type 0) (r : Result T E) (x : E) → r ≡ Err x → OnErr r P → P
on_err_at {T = T} {E = E} P r x e h = subst (λ (q : Result T E). OnErr q P) e h

-- the degree, of what the code has read
pub degree_same : (r right : ℤ) (ts us : List Term) (ms ns : List NormalTerm) (d : ℕ) → r ≡ right → ts ≡ us → ms ≡ ns → d ≡ min (at_least_zero (raised r ts ms)) (2 ^ 127 - 1) → d ≡ min (at_least_zero (raised right us ns)) (2 ^ 127 - 1)
degree_same r right ts us ms ns d e f g h =
    h ∙ ap (λ (z : ℤ). min (at_least_zero (raised z ts ms)) (2 ^ 127 - 1)) e
    ∙ ap (λ (xs : List Term). min (at_least_zero (raised right xs ms)) (2 ^ 127 - 1)) f
    ∙ ap (λ (xs : List NormalTerm). min (at_least_zero (raised right us xs)) (2 ^ 127 - 1)) g

-- The terms of some variables are gathered, variable by variable.
use Rattle.std.proofs.Common.{◌≡◌, ℕ, zero, suc, ◌+◌, ◌<◌, ◌≤◌, Bool, true, false, cond, ◌==◌, ◌||◌, ◌&&◌, List, [], ◌∷◌, ◌++◌, get_or, take, length, refl, ap, sym, ◌∙◌, arith, inl, inr}
use Rattle.std.proofs.lemmas.Bool.{cases_eq}
use Rattle.std.proofs.lemmas.Bool.Decides.{nat_tests}
use Rattle.std.proofs.lemmas.List.Folds.{list_any_more}
use Rattle.normal_form.specs.declared.term.NormalTerm.{NormalTerm}
use Rattle.normal_form.specs.Normal.{Literals, NormalConstraint, Fits, coefficient, only, same_sign, sum_below, sum_over, total, variable_bound}
use Rattle.normal_form.proofs.Sums.{counted, sum_over_push}
use Rattle.normal_form.proofs.SumsByVariable.{absent_above, pivot, told}
use Rattle.substitution.specs.Part.{IsTermOf, is_among}

off : (v w c : ℕ) → (v ≡ w → ⊥) → cond (v == w) c 0 ≡ 0
off v w c h = grind (arith, nat_tests)

on : (v w c : ℕ) → v ≡ w → cond (v == w) c 0 ≡ c
on v w c h = grind (arith, nat_tests)

other : (w v c : ℕ) (s : Bool) → (v ≡ w → ⊥) → cond ((w == v) && s) c 0 ≡ 0
other w v c s h = grind (arith, nat_tests)

counted_at : (n : NormalConstraint) (variable : ℕ) (t : NormalTerm) (v : ℕ) (s : Bool) → IsTermOf n variable t → counted (only v s) t ≡ cond (v == variable) (coefficient n v s) 0
counted_at n variable t v s is = elim (cases_eq v variable) [
  | inl e ↦
      let there : coefficient n v s ≡ sum_over (only v s) (t ∷ []) = ap (λ (w : ℕ). coefficient n w s) e ∙ is.coefficients s ∙ ap (λ (w : ℕ). sum_over (only w s) (t ∷ [])) (sym e) in
      omega (arith, there, on v variable (coefficient n v s) e)
  | inr h ↦ other (t.var.0) v t.coef (same_sign s t.negated) (λ e. h (e ∙ is.variable)) ∙ sym (off v variable (coefficient n v s) h)
]

-- a term more
pub pushed_term : (n : NormalConstraint) (variable : ℕ) (t : NormalTerm) (old new : List NormalTerm) → IsTermOf n variable t → new ≡ old ++ t ∷ [] → (v : ℕ) (s : Bool)
    → sum_over (only v s) new ≡ sum_over (only v s) old + cond (v == variable) (coefficient n v s) 0
pushed_term n variable t old new is pushed v s =
    ap (sum_over (only v s)) pushed ∙ sum_over_push (only v s) old t ∙ ap (λ (c : ℕ). sum_over (only v s) old + c) (counted_at n variable t v s is)

-- none, of a variable that does not occur
pub no_term : (n : NormalConstraint) (variable : ℕ) (old : List NormalTerm) → ((s : Bool) → coefficient n variable s ≡ 0) → (v : ℕ) (s : Bool)
    → sum_over (only v s) old ≡ sum_over (only v s) old + cond (v == variable) (coefficient n v s) 0
no_term n variable old none v s = elim (cases_eq v variable) [
  | inl e ↦
      let zero_there : coefficient n v s ≡ 0 = ap (λ (w : ℕ). coefficient n w s) e ∙ none s in
      omega (arith, on v variable (coefficient n v s) e, zero_there)
  | inr h ↦ omega (arith, off v variable (coefficient n v s) h)
]

once : (b e : Bool) (c old : ℕ) → old ≡ cond b c 0 → (e ≡ true → old ≡ 0) → old + cond e c 0 ≡ cond (b || e) c 0
once true true c old h none = let gone = none refl in omega (arith, h, gone)
once true false c old h none = omega (arith, h)
once false true c old h none = omega (arith, h)
once false false c old h none = omega (arith, h)

equal : (v w : ℕ) → (v == w) ≡ true → v ≡ w
equal v w h = grind (arith, nat_tests)

-- the terms of the first variables of a list have been gathered
abbrev pub AreGathered : NormalConstraint → List ℕ → ℕ → List NormalTerm → Type 0
AreGathered n variables i ts = (v : ℕ) (s : Bool) → sum_over (only v s) ts ≡ cond (is_among (take i variables) v) (coefficient n v s) 0

-- one variable more, above all so far
pub gathered_more : (n : NormalConstraint) (variables : List ℕ) (i : ℕ) (d : ℕ) (old new : List NormalTerm) → i < length variables → AreGathered n variables i old → variable_bound old ≤ get_or variables i d
    → ((v : ℕ) (s : Bool) → sum_over (only v s) new ≡ sum_over (only v s) old + cond (v == get_or variables i d) (coefficient n v s) 0) → AreGathered n variables (i + 1) new
gathered_more n variables i d old new inside so_far above more v s =
    let x = get_or variables i d in
    let absent : (v == x) ≡ true → sum_over (only v s) old ≡ 0 = λ h. absent_above old v s (let same = equal v x h in omega (arith, above, same)) in
    more v s
    ∙ once (is_among (take i variables) v) (v == x) (coefficient n v s) (sum_over (only v s) old) (so_far v s) absent
    ∙ ap (λ (b : Bool). cond b (coefficient n v s) 0) (sym (list_any_more (λ y. v == y) variables i d inside))

each_below : (n : ℕ) (f g : ℕ → ℕ) → ((v : ℕ) → f v ≤ g v) → sum_below n f ≤ sum_below n g
each_below zero f g h = omega arith
each_below (suc n) f g h = omega (arith, h n, each_below n f g h)

total_no_more : (ms ns : List NormalTerm) → ((v : ℕ) (s : Bool) → sum_over (only v s) ms ≤ sum_over (only v s) ns) → total ms ≤ total ns
total_no_more ms ns h =
    let every : Literals = λ _ _. true in
    let bound = variable_bound ms + variable_bound ns in
    let left = pivot every ms bound (omega arith) in
    let right = pivot every ns bound (omega arith) in
    omega (arith, left, right, each_below bound (told every ms) (told every ns) (λ v. omega (arith, h v false, h v true)))

part_below : (b : Bool) (c : ℕ) → cond b c 0 ≤ c
part_below true c = omega arith
part_below false c = omega arith

-- a part fits where the constraint does
pub part_fits : (n : NormalConstraint) (variables : List ℕ) (ts : List NormalTerm) (d : ℕ) → Fits n → d ≡ n.degree → ((v : ℕ) (s : Bool) → sum_over (only v s) ts ≡ cond (is_among variables v) (coefficient n v s) 0)
    → Fits (record { terms = ts; degree = d })
part_fits n variables ts d fits degree parts =
    let small = total_no_more ts n.terms (λ v s. omega (arith, parts v s, part_below (is_among variables v) (coefficient n v s))) in
    record { sum = omega (arith, small, fits.sum); degree = omega (arith, degree, fits.degree) }

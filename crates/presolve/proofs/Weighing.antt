-- The greatest weights of two variables that may change places are the same.
use Rattle.std.proofs.Common.{◌≡◌, ℕ, zero, suc, ◌+◌, ◌<◌, ◌≤◌, ◌==◌, ◌&&◌, max, if◌then◌else◌, Bool, true, false, List, [], ◌∷◌, ◌++◌, take, length, get_or, Contains, refl, sym, ap, subst, ◌∙◌, zero-add, arith}
use Rattle.std.proofs.lemmas.Bool.Decides.{nat_tests}
use Rattle.std.proofs.lemmas.List.{get_or-map, length-map, take_more}
use Rattle.linear.specs.declared.constraint.Signed.{Signed}
use Rattle.normal_form.specs.declared.term.NormalTerm.{NormalTerm}
use Rattle.normal_form.specs.Normal.{NormalConstraint, Rises, coefficient, only, same_sign, sum_over}
use Rattle.presolve.specs.Forms.{AreKeysOf, constraint_of, constraints_of}
use Rattle.presolve.specs.Swapping.{IsSymmetric, exchanged}
use Rattle.presolve.specs.Weights.{greatest, greatest_of, weight, weight_at}
use Rattle.presolve.specs.declared.form.Form.{Form}
use Rattle.presolve.proofs.Symmetry.{key_in, keys_rise, member_rises, none_before, some_form}

greatest_push : (degree : ℕ) (ts : List NormalTerm) (t : NormalTerm) (v : ℕ) → greatest_of degree (ts ++ t ∷ []) v ≡ max (greatest_of degree ts v) (weight_at degree t v)
greatest_push degree [] t v = omega arith
greatest_push degree (x ∷ xs) t v = omega (arith, greatest_push degree xs t v)

-- one more term
pub terms_weighed : (degree : ℕ) (ts : List NormalTerm) (i : ℕ) (d : NormalTerm) (v old start new : ℕ) → i < length ts → old ≡ max start (greatest_of degree (take i ts) v)
    → new ≡ max old (weight_at degree (get_or ts i d) v) → new ≡ max start (greatest_of degree (take (i + 1) ts) v)
terms_weighed degree ts i d v old start new h before here =
    omega (arith, before, here, ap (λ us. greatest_of degree us v) (take_more ts i d h), greatest_push degree (take i ts) (get_or ts i d) v)

keys_push : (ks : List Form) (k : Form) (v : ℕ) → greatest (ks ++ k ∷ []) v ≡ max (greatest ks v) (greatest_of k.degree k.terms.items v)
keys_push [] k v = omega arith
keys_push (x ∷ xs) k v = omega (arith, keys_push xs k v)

-- one more key
pub keys_weighed : (ks : List Form) (i : ℕ) (d : Form) (v old new : ℕ) → i < length ks → old ≡ greatest (take i ks) v
    → new ≡ max old (greatest_of (get_or ks i d).degree (get_or ks i d).terms.items v) → new ≡ greatest (take (i + 1) ks) v
keys_weighed ks i d v old new h before here =
    omega (arith, before, here, ap (λ us. greatest us v) (take_more ks i d h), keys_push (take i ks) (get_or ks i d) v)

-- what the coefficients of a variable's literals weigh
both_weight : ℕ → ℕ → ℕ → ℕ
both_weight plain negated degree = if plain == 0 then (if negated == 0 then 0 else weight negated true degree) else weight plain false degree

none_weighed : (low degree v : ℕ) (ts : List NormalTerm) → Rises low ts → v < low → greatest_of degree ts v ≡ 0
none_weighed low degree v [] r h = refl
none_weighed low degree v (t ∷ ts) r h =
    let rest = none_weighed (t.var.0 + 1) degree v ts r.2 (omega (arith, r.0, h)) in
    let here : (t.var.0 == v) ≡ false = grind (arith, nat_tests, r.0, h) in
    subst (λ b. max (if b then weight t.coef t.negated degree else 0) (greatest_of degree ts v) ≡ 0) (sym here) (omega (arith, rest))

-- of terms that rise one alone has the variable
by_coefficients : (low degree v : ℕ) (ts : List NormalTerm) → Rises low ts → greatest_of degree ts v ≡ both_weight (sum_over (only v false) ts) (sum_over (only v true) ts) degree
unfolding both_weight
by_coefficients low degree v [] r = refl
by_coefficients low degree v (t ∷ ts) r = by (t.var.0 == v) t.negated refl (by_coefficients (t.var.0 + 1) degree v ts r.2)
  where
    alone : (b : Bool) → b ≡ (t.var.0 == v) → b ≡ true → (s : Bool) → sum_over (only v s) ts ≡ 0
    alone b e is s = let same : t.var.0 ≡ v = grind (arith, nat_tests) in none_before (t.var.0 + 1) v s ts r.2 (omega (arith, same))

    nothing : (b : Bool) → b ≡ (t.var.0 == v) → b ≡ true → greatest_of degree ts v ≡ 0
    nothing b e is = let same : t.var.0 ≡ v = grind (arith, nat_tests) in none_weighed (t.var.0 + 1) degree v ts r.2 (omega (arith, same))

    by : (b s : Bool) → b ≡ (t.var.0 == v) → greatest_of degree ts v ≡ both_weight (sum_over (only v false) ts) (sum_over (only v true) ts) degree
        → max (if b then weight t.coef s degree else 0) (greatest_of degree ts v)
        ≡ both_weight ((if b && same_sign false s then t.coef else 0) + sum_over (only v false) ts) ((if b && same_sign true s then t.coef else 0) + sum_over (only v true) ts) degree
    by false s e rest =
        omega arith
        ∙ rest
        ∙ ap (λ n. both_weight n (sum_over (only v true) ts) degree) (sym (zero-add (sum_over (only v false) ts)))
        ∙ ap (λ n. both_weight (0 + sum_over (only v false) ts) n degree) (sym (zero-add (sum_over (only v true) ts)))
    by true false e rest =
        let plain : t.coef + sum_over (only v false) ts ≡ t.coef = omega (arith, alone true e refl false) in
        let some : (t.coef == 0) ≡ false = grind (arith, nat_tests, r.1) in
        omega (arith, nothing true e refl)
        ∙ subst (λ b. weight t.coef false degree ≡ (if b then (if 0 + sum_over (only v true) ts == 0 then 0 else weight (0 + sum_over (only v true) ts) true degree) else weight t.coef false degree)) (sym some) refl
        ∙ ap (λ n. both_weight n (0 + sum_over (only v true) ts) degree) (sym plain)
    by true true e rest =
        let plain : 0 + sum_over (only v false) ts ≡ 0 = omega (arith, alone true e refl false) in
        let negated : t.coef + sum_over (only v true) ts ≡ t.coef = omega (arith, alone true e refl true) in
        let some : (t.coef == 0) ≡ false = grind (arith, nat_tests, r.1) in
        omega (arith, nothing true e refl)
        ∙ subst (λ b. weight t.coef true degree ≡ (if b then 0 else weight t.coef true degree)) (sym some) refl
        ∙ ap (λ n. both_weight 0 n degree) (sym negated)
        ∙ ap (λ n. both_weight n (t.coef + sum_over (only v true) ts) degree) (sym plain)

-- no key is heavier than the heaviest, and nothing less is as heavy as all
below_greatest : (ks : List Form) (i : ℕ) (d : Form) (v : ℕ) → i < length ks → greatest_of (get_or ks i d).degree (get_or ks i d).terms.items v ≤ greatest ks v
below_greatest [] i d v h = absurd (omega (arith, h))
below_greatest (k ∷ ks) zero d v h = omega arith
below_greatest (k ∷ ks) (suc i) d v h = omega (arith, below_greatest ks i d v (omega (arith, h)))

greatest_below : (most : ℕ) (ks : List Form) (v : ℕ) → ((i : ℕ) (d : Form) → i < length ks → greatest_of (get_or ks i d).degree (get_or ks i d).terms.items v ≤ most) → greatest ks v ≤ most
greatest_below most [] v all = omega arith
greatest_below most (k ∷ ks) v all = omega (arith, all 0 k (omega arith), greatest_below most ks v (λ i d h. all (suc i) d (omega (arith, h))))

-- a constraint among those of keys is no heavier
member_below : (ks : List Form) (m : NormalConstraint) (v : ℕ) → Contains (constraints_of ks) m → greatest_of m.degree m.terms v ≤ greatest ks v
member_below ks m v c =
    let inside : c.0 < length ks = omega (arith, c.1, length-map ks constraint_of) in
    let k : Form = some_form ks c.0 inside in
    subst (λ (n : NormalConstraint). greatest_of n.degree n.terms v ≤ greatest ks v) (sym (get_or-map constraint_of ks c.0 k m inside) ∙ c.2) (below_greatest ks c.0 k v inside)

-- where each constraint becomes one of the file in which the one variable has the coefficients of the other, the one is no heavier
no_heavier : (cs : List Signed) (keys : List Form) (x y a b : ℕ) → AreKeysOf cs keys → IsSymmetric cs x y → exchanged x y b ≡ a → greatest keys a ≤ greatest keys b
no_heavier cs keys x y a b are symmetric e = greatest_below (greatest keys b) keys a each
  where
    each : (i : ℕ) (d : Form) → i < length keys → greatest_of (get_or keys i d).degree (get_or keys i d).terms.items a ≤ greatest keys b
    each i d h =
        let n = constraint_of (get_or keys i d) in
        let is = symmetric n ((are n).1 (key_in keys i d h)) in
        let rises = keys_rise cs keys are in
        let other = (are is.0).0 is.1 in
        let same : (s : Bool) → coefficient is.0 b s ≡ coefficient n a s = λ s. is.2.coefficients b s ∙ ap (λ v. coefficient n v s) e in
        let heavy : greatest_of n.degree n.terms a ≡ greatest_of (is.0).degree (is.0).terms b =
        by_coefficients 0 n.degree a n.terms (rises i d h)
        ∙ ap (λ c. both_weight c (coefficient n a true) n.degree) (sym (same false))
        ∙ ap (λ c. both_weight (coefficient is.0 b false) c n.degree) (sym (same true))
        ∙ ap (λ c. both_weight (coefficient is.0 b false) (coefficient is.0 b true) c) (sym is.2.degree)
        ∙ sym (by_coefficients 0 (is.0).degree b (is.0).terms (member_rises keys is.0 rises other)) in
        omega (arith, heavy, member_below keys is.0 b other)

-- so both are equally heavy
pub equally_heavy : (cs : List Signed) (keys : List Form) (x y : ℕ) → AreKeysOf cs keys → IsSymmetric cs x y → greatest keys x ≡ greatest keys y
equally_heavy cs keys x y are symmetric =
    let to_x : exchanged x y y ≡ x = by (y == x) refl in
    let to_y : exchanged x y x ≡ y = grind (arith, nat_tests) in
    omega (arith, no_heavier cs keys x y x y are symmetric to_x, no_heavier cs keys x y y x are symmetric to_y)
  where
    by : (b : Bool) → b ≡ (y == x) → (if b then y else if y == y then x else y) ≡ x
    by true e = let same : y ≡ x = grind (arith, nat_tests) in same
    by false e = grind (arith, nat_tests)

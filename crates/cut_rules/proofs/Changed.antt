-- Terms with other coefficients: their order, coefficients and sums.
use Rattle.std.proofs.Common.{◌≡◌, ℕ, zero, suc, ◌+◌, ◌<◌, ◌≤◌, max, Bool, true, false, cond, ◌==◌, ◌&&◌, List, [], ◌∷◌, ◌++◌, length, get_or, take, refl, ap, sym, ◌∙◌, arith, append_assoc}
use Rattle.std.proofs.lemmas.Bool.Decides.{nat_tests}
use Rattle.std.proofs.lemmas.List.{take_more, append-nil}
use Rattle.normal_form.specs.declared.term.NormalTerm.{NormalTerm}
use Rattle.normal_form.specs.Normal.{Literals, sum_over, total, same_sign, only, Rises, variable_bound}
use Rattle.normal_form.proofs.Sums.{bound_take}
use Rattle.normal_form.proofs.OneList.{absent}
use Rattle.cut_rules.specs.Steps.{kept, changed}

pub kept_none : (t : NormalTerm) (c : ℕ) → c ≡ 0 → kept t c ≡ []
kept_none t zero h = refl
kept_none t (suc c) h = absurd (omega (arith, h))

pub kept_one : (t : NormalTerm) (c : ℕ) → (c ≡ 0 → ⊥) → kept t c ≡ (record t { coef = c }) ∷ []
kept_one t zero h = absurd (h refl)
kept_one t (suc c) h = refl

rises_lower : (low high : ℕ) (ts : List NormalTerm) → Rises high ts → low ≤ high → Rises low ts
rises_lower low high [] r h = tt
rises_lower low high (t ∷ ts) r h = (omega (arith, r.0, h), r.1, r.2)

kept_rises : (low : ℕ) (t : NormalTerm) (c : ℕ) (us : List NormalTerm) → low ≤ t.var.0 → Rises (t.var.0 + 1) us → Rises low (kept t c ++ us)
kept_rises low t zero us h r = rises_lower low (t.var.0 + 1) us r (omega (arith, h))
kept_rises low t (suc c) us h r = (h, omega arith, r)

pub changed_rises : (f : ℕ → ℕ → ℕ) (low : ℕ) (ts : List NormalTerm) → Rises low ts → Rises low (changed f ts)
changed_rises f low [] r = tt
changed_rises f low (t ∷ ts) r = kept_rises low t (f (t.var.0) t.coef) (changed f ts) r.0 (changed_rises f (t.var.0 + 1) ts r.2)

kept_bound : (t : NormalTerm) (c : ℕ) (us : List NormalTerm) → variable_bound (kept t c ++ us) ≤ max (t.var.0 + 1) (variable_bound us)
kept_bound t zero us = omega arith
kept_bound t (suc c) us = omega arith

changed_bound : (f : ℕ → ℕ → ℕ) (ts : List NormalTerm) → variable_bound (changed f ts) ≤ variable_bound ts
changed_bound f [] = omega arith
changed_bound f (t ∷ ts) = omega (arith, kept_bound t (f (t.var.0) t.coef) (changed f ts), changed_bound f ts)

-- what is made of the terms before a place stays below its variable
pub changed_below : (f : ℕ → ℕ → ℕ) (ts made : List NormalTerm) (i : ℕ) (t : NormalTerm) → Rises 0 ts → i < length ts → t ≡ get_or ts i t → made ≡ changed f (take i ts) → variable_bound made ≤ t.var.0
changed_below f ts made i t r h e m = omega (arith, ap variable_bound m, changed_bound f (take i ts), bound_take 0 ts i t r h, ap (λ (x : NormalTerm). x.var.0) e)

changed_push : (f : ℕ → ℕ → ℕ) (ts : List NormalTerm) (t : NormalTerm) → changed f (ts ++ t ∷ []) ≡ changed f ts ++ kept t (f (t.var.0) t.coef)
changed_push f [] t = append-nil (kept t (f (t.var.0) t.coef))
changed_push f (x ∷ xs) t = ap (λ (us : List NormalTerm). kept x (f (x.var.0) x.coef) ++ us) (changed_push f xs t) ∙ sym (append_assoc (kept x (f (x.var.0) x.coef)) (changed f xs) (kept t (f (t.var.0) t.coef)))

-- one more term
pub changed_more : (f : ℕ → ℕ → ℕ) (ts made next : List NormalTerm) (i c : ℕ) (t : NormalTerm) → i < length ts → t ≡ get_or ts i t → made ≡ changed f (take i ts) → c ≡ f (t.var.0) t.coef → next ≡ made ++ kept t c → next ≡ changed f (take (i + 1) ts)
changed_more f ts made next i c t h e m d n =
    let one : made ++ kept t c ≡ changed f (take i ts) ++ kept t c = ap (λ (us : List NormalTerm). us ++ kept t c) m in
    let two : changed f (take i ts) ++ kept t c ≡ changed f (take i ts) ++ kept t (f (t.var.0) t.coef) = ap (λ (x : ℕ). changed f (take i ts) ++ kept t x) d in
    let three : take (i + 1) ts ≡ take i ts ++ t ∷ [] = take_more ts i t h ∙ ap (λ (x : NormalTerm). take i ts ++ x ∷ []) (sym e) in
    n ∙ one ∙ two ∙ sym (changed_push f (take i ts) t) ∙ sym (ap (changed f) three)

pub no_weight : (b : Bool) → ◌≡◌ {A = ℕ} (cond b 0 0) 0
no_weight true = refl
no_weight false = refl

kept_sum : (set : Literals) (t : NormalTerm) (c : ℕ) (us : List NormalTerm) → sum_over set (kept t c ++ us) ≡ cond (set (t.var.0) t.negated) c 0 + sum_over set us
kept_sum set t zero us = omega (arith, no_weight (set (t.var.0) t.negated))
kept_sum set t (suc c) us = refl

pub changed_sum : (set : Literals) (f : ℕ → ℕ → ℕ) (t : NormalTerm) (ts : List NormalTerm) → sum_over set (changed f (t ∷ ts)) ≡ cond (set (t.var.0) t.negated) (f (t.var.0) t.coef) 0 + sum_over set (changed f ts)
changed_sum set f t ts = kept_sum set t (f (t.var.0) t.coef) (changed f ts)

equal : (w v : ℕ) → (w == v) ≡ true → w ≡ v
equal w v h = grind (arith, nat_tests)

own : (g : ℕ → ℕ) (q b : Bool) (d c x : ℕ) → g 0 ≡ 0 → (q ≡ true → (d ≡ g c) × (x ≡ 0)) → cond (q && b) d 0 + g x ≡ g (cond (q && b) c 0 + x)
own g true true d c x z h =
    let none : g x ≡ 0 = ap g (h refl).1 ∙ z in
    let plus : c ≡ c + x = omega (arith, (h refl).1) in
    omega (arith, none, (h refl).0, ap g plus)
own g true false d c x z h =
    let plus : x ≡ 0 + x = omega arith in
    omega (arith, ap g plus)
own g false b d c x z h =
    let plus : x ≡ 0 + x = omega arith in
    omega (arith, ap g plus)

-- each literal has what the function gives of its coefficient before
pub changed_coefficient : (f : ℕ → ℕ → ℕ) → ((v : ℕ) → f v 0 ≡ 0) → (low : ℕ) (ts : List NormalTerm) → Rises low ts → (v : ℕ) (s : Bool) → sum_over (only v s) (changed f ts) ≡ f v (sum_over (only v s) ts)
changed_coefficient f z low [] r v s = sym (z v)
changed_coefficient f z low (t ∷ ts) r v s =
    let alone : (t.var.0 == v) ≡ true → (f (t.var.0) t.coef ≡ f v t.coef) × (sum_over (only v s) ts ≡ 0) = λ e. (ap (λ (x : ℕ). f x t.coef) (equal (t.var.0) v e), absent (t.var.0 + 1) ts r.2 v s (omega (arith, equal (t.var.0) v e))) in
    let here : cond ((t.var.0 == v) && same_sign s t.negated) (f (t.var.0) t.coef) 0 + f v (sum_over (only v s) ts) ≡ f v (cond ((t.var.0 == v) && same_sign s t.negated) t.coef 0 + sum_over (only v s) ts) = own (f v) (t.var.0 == v) (same_sign s t.negated) (f (t.var.0) t.coef) t.coef (sum_over (only v s) ts) (z v) alone in
    omega (arith, changed_sum (only v s) f t ts, changed_coefficient f z (t.var.0 + 1) ts r.2 v s, here)

-- where no coefficient grows, their sum does not
pub changed_total : (f : ℕ → ℕ → ℕ) → ((v c : ℕ) → f v c ≤ c) → (ts : List NormalTerm) → total (changed f ts) ≤ total ts
changed_total f d [] = omega arith
changed_total f d (t ∷ ts) = omega (arith, changed_sum (λ _ _. true) f t ts, d (t.var.0) t.coef, changed_total f d ts)

-- Sums over lists of terms, told by variable: what stands at each variable below a bound, added up.
use Rattle.std.proofs.Common.{◌≡◌, ℕ, zero, suc, ◌+◌, ◌<◌, ◌≤◌, Bool, true, false, cond, not, ◌==◌, ◌&&◌, List, [], ◌∷◌, refl, ap, sym, ◌∙◌, arith, inl, inr}
use Rattle.std.proofs.lemmas.Bool.{cases_eq}
use Rattle.std.proofs.lemmas.Bool.Decides.{nat_tests}
use Rattle.normal_form.specs.declared.term.NormalTerm.{NormalTerm}
use Rattle.normal_form.specs.Normal.{Literals, sum_over, sum_below, same_sign, only, variable_bound}
use Rattle.normal_form.proofs.Sums.{counted}

pub all_zero : (n : ℕ) (f : ℕ → ℕ) → ((v : ℕ) → f v ≡ 0) → sum_below n f ≡ 0
all_zero zero f z = refl
all_zero (suc n) f z = omega (arith, z n, all_zero n f z)

-- equations at each number add up
pub add_up : (n : ℕ) (f g h k : ℕ → ℕ) → ((v : ℕ) → f v + g v ≡ h v + k v) → sum_below n f + sum_below n g ≡ sum_below n h + sum_below n k
add_up zero f g h k e = refl
add_up (suc n) f g h k e = omega (arith, e n, add_up n f g h k e)

-- where f is 0, nothing more comes
pub none_above : (m n : ℕ) (f : ℕ → ℕ) → n ≤ m → ((v : ℕ) → n ≤ v → f v ≡ 0) → sum_below m f ≡ sum_below n f
none_above zero zero f h z = refl
none_above zero (suc n) f h z = absurd (omega (arith, h))
none_above (suc m) n f h z = elim (cases_eq (suc m) n) [
  | inl e ↦ ap (λ (x : ℕ). sum_below x f) e
  | inr e ↦ omega (arith, z m (omega (arith, h, e)), none_above m n f (omega (arith, h, e)) z)
]

off : (w v c : ℕ) → (w ≡ v → ⊥) → cond (w == v) c 0 ≡ 0
off w v c h = grind (arith, nat_tests)

on : (w v c : ℕ) → w ≡ v → cond (w == v) c 0 ≡ c
on w v c h = grind (arith, nat_tests)

-- c at one number, 0 elsewhere
abbrev pub single : ℕ → ℕ → ℕ → ℕ
single w c v = cond (w == v) c 0

single_none : (w c n : ℕ) → n ≤ w → sum_below n (single w c) ≡ 0
single_none w c zero h = refl
single_none w c (suc n) h = omega (arith, off w n c (λ e. omega (arith, e, h)), single_none w c n (omega (arith, h)))

pub single_sum : (w c n : ℕ) → w < n → sum_below n (single w c) ≡ c
single_sum w c zero h = absurd (omega (arith, h))
single_sum w c (suc n) h = elim (cases_eq w n) [
  | inl e ↦ omega (arith, on w n c e, single_none w c n (omega (arith, e)))
  | inr e ↦ omega (arith, off w n c e, single_sum w c n (omega (arith, h, e)))
]

-- what the literals of a variable in a set have
abbrev pub told : Literals → List NormalTerm → ℕ → ℕ
told set ts v = cond (set v false) (sum_over (only v false) ts) 0 + cond (set v true) (sum_over (only v true) ts) 0

told_nil : (p q : Bool) → cond p 0 0 + cond q 0 0 ≡ 0
told_nil true true = refl
told_nil true false = refl
told_nil false true = refl
told_nil false false = refl

told_more : (b p q n : Bool) (c x y : ℕ) → cond p (cond (b && not n) c 0 + x) 0 + cond q (cond (b && n) c 0 + y) 0 ≡ cond b (cond (cond n q p) c 0) 0 + (cond p x 0 + cond q y 0)
told_more true true true true c x y = omega arith
told_more true true true false c x y = omega arith
told_more true true false true c x y = omega arith
told_more true true false false c x y = omega arith
told_more true false true true c x y = omega arith
told_more true false true false c x y = omega arith
told_more true false false true c x y = omega arith
told_more true false false false c x y = omega arith
told_more false true true n c x y = omega arith
told_more false true false n c x y = omega arith
told_more false false true n c x y = omega arith
told_more false false false n c x y = omega arith

chosen : (set : Literals) (v : ℕ) (n : Bool) → cond n (set v true) (set v false) ≡ set v n
chosen set v true = refl
chosen set v false = refl

moved : (set : Literals) (w v c : ℕ) (n : Bool) → cond (w == v) (cond (cond n (set v true) (set v false)) c 0) 0 ≡ cond (w == v) (cond (set w n) c 0) 0
moved set w v c n = elim (cases_eq w v) [
  | inl h ↦ ap (λ (b : Bool). cond (w == v) (cond b c 0) 0) (chosen set v n ∙ ap (λ (x : ℕ). set x n) (sym h))
  | inr h ↦ off w v (cond (cond n (set v true) (set v false)) c 0) h ∙ sym (off w v (cond (set w n) c 0) h)
]

told_cons : (set : Literals) (t : NormalTerm) (ts : List NormalTerm) (v : ℕ) → told set (t ∷ ts) v ≡ single (t.var.0) (counted set t) v + told set ts v
told_cons set t ts v =
    told_more (t.var.0 == v) (set v false) (set v true) t.negated t.coef (sum_over (only v false) ts) (sum_over (only v true) ts)
    ∙ ap (λ (x : ℕ). x + told set ts v) (moved set (t.var.0) v t.coef t.negated)

-- a sum over a set of literals is the sum over all variables of what their literals in the set have
pub pivot : (set : Literals) (ts : List NormalTerm) (n : ℕ) → variable_bound ts ≤ n → sum_over set ts ≡ sum_below n (told set ts)
pivot set [] n h = sym (all_zero n (told set []) (λ v. told_nil (set v false) (set v true)))
pivot set (t ∷ ts) n h =
    let below : t.var.0 < n = omega (arith, h) in
    let rest : sum_over set ts ≡ sum_below n (told set ts) = pivot set ts n (omega (arith, h)) in
    let sums : sum_below n (told set (t ∷ ts)) + sum_below n (λ _. 0) ≡ sum_below n (single (t.var.0) (counted set t)) + sum_below n (told set ts) = add_up n (told set (t ∷ ts)) (λ _. 0) (single (t.var.0) (counted set t)) (told set ts) (λ v. omega (arith, told_cons set t ts v)) in
    omega (arith, rest, sums, all_zero n (λ _. 0) (λ _. refl), single_sum (t.var.0) (counted set t) n below)

other : (w v c : ℕ) (s : Bool) → w < v → cond ((w == v) && s) c 0 ≡ 0
other w v c s h = grind (arith, nat_tests)

-- no literal at or above the bound has a coefficient
pub absent_above : (ts : List NormalTerm) (v : ℕ) (s : Bool) → variable_bound ts ≤ v → sum_over (only v s) ts ≡ 0
absent_above [] v s h = refl
absent_above (t ∷ ts) v s h = omega (arith, other (t.var.0) v t.coef (same_sign s t.negated) (omega (arith, h)), absent_above ts v s (omega (arith, h)))

-- One step of a pass over terms, and what stays of the variables' order.
use Rattle.std.proofs.Common.{◌≡◌, ◌∙◌, sym, ℕ, ◌+◌, ◌<◌, ◌≤◌, Bool, true, false, cond, List, [], ◌∷◌, ◌++◌, length, zero, suc, get_or, drop, drop-cons, ap, subst, arith}
use Rattle.std.specs.Prelude.{ℤ, pos, min, ◌+ℤ◌}
use Rattle.std.proofs.Math.Numerals.{add-one}
use Rattle.std.proofs.lemmas.Int.{ints}
use Rattle.linear.specs.Largest.{most_names}
use Rattle.normal_form.specs.declared.term.NormalTerm.{NormalTerm}
use Rattle.normal_form.specs.Normal.{total, Rises, variable_bound}
use Rattle.normal_form.proofs.Runs.{rises_of_push}
use Rattle.normal_form.proofs.Sums.{bound_push, rises_push, sum_over_more, sum_over_take}
use Rattle.normal_form.specs.Balance.{rise_of, rises_of}
use Rattle.cut_rules.specs.Steps.{IsFirst, IsMergedAt, first_variable}

-- no coefficient is above the sum of all
pub coefficient_at : (ts : List NormalTerm) (i : ℕ) (t : NormalTerm) → i < length ts → t ≡ get_or ts i t → t.coef ≤ total ts
coefficient_at ts i t h e = omega (arith, sum_over_more (λ _ _. true) ts i t h, sum_over_take (λ _ _. true) (i + 1) ts, ap (λ (x : NormalTerm). x.coef) e)

-- terms rise from any number that is not above the first variable
pub rises_from : (low v : ℕ) (ts : List NormalTerm) → Rises low ts → v ≤ first_variable ts → Rises v ts
rises_from low v [] r h = tt
rises_from low v (t ∷ ts) r h = (h, r.1, r.2)

pub first_above : (low : ℕ) (ts : List NormalTerm) → Rises low ts → low ≤ most_names → low ≤ first_variable ts
first_above low [] r h = h
first_above low (t ∷ ts) r h = r.0

-- a term that is next stands there, and the others behind it
pub next_is : (l : List NormalTerm) (j : ℕ) (t : NormalTerm) → j < length l → t ≡ get_or l j t → drop j l ≡ t ∷ drop (j + 1) l
next_is l j t low same = rw (add-one j) (drop-cons l j t low ∙ ap (λ (x : NormalTerm). x ∷ drop (suc j) l) (sym same))

-- and its variable is the next one
pub first_is : (l : List NormalTerm) (j : ℕ) (t : NormalTerm) → j < length l → t ≡ get_or l j t → first_variable (drop j l) ≡ t.var.0
first_is l j t low same = ap first_variable (next_is l j t low same)

-- where a variable is next there is a term
pub inside : (l : List NormalTerm) (j : ℕ) → first_variable (drop j l) < most_names → j < length l
inside [] zero h = absurd (omega (arith, h))
inside [] (suc j) h = absurd (omega (arith, h))
inside (t ∷ ts) zero h = omega arith
inside (t ∷ ts) (suc j) h = omega (arith, inside ts j h)

-- one side alone has the least variable
pub left_alone : (v : ℕ) (l m r out new : List NormalTerm) (t : NormalTerm) → l ≡ t ∷ m → v ≡ t.var.0 → v < first_variable r → Rises v l → Rises v r → variable_bound out ≤ v → new ≡ out ++ t ∷ []
    → IsMergedAt v l m r r out new
left_alone v l m r out new t e same above rises others b is =
    let there : Rises v (t ∷ m) = subst (λ (xs : List NormalTerm). Rises v xs) e rises in
    record {
      balance = λ set. omega (arith, ints, ap (rises_of set) is, rises_of_push set out t, ap (rises_of set) e);
      left = subst (λ (x : ℕ). Rises (x + 1) m) (sym same) there.2;
      right = rises_from v (v + 1) r others (omega (arith, above));
      bound = omega (arith, ap variable_bound is, bound_push out t, b, same);
      rises = λ before. subst (λ (xs : List NormalTerm). Rises 0 xs) (sym is) (rises_push 0 out t before (omega arith) (omega (arith, b, same)) there.1);
    }

-- the sides may be told in the other order
pub mirrored : (v : ℕ) (l m r s out new : List NormalTerm) → IsMergedAt v r s l m out new → IsMergedAt v l m r s out new
mirrored v l m r s out new h = record {
  balance = λ set. omega (arith, ints, h.balance set);
  left = h.right;
  right = h.left;
  bound = h.bound;
  rises = h.rises;
}

both_balance : (b : Bool) (out new x more y rest l r net : ℤ) → new ≡ out +ℤ cond b net (pos 0) → x ≡ cond b l (pos 0) +ℤ more → y ≡ cond b r (pos 0) +ℤ rest → net ≡ l +ℤ r → (new +ℤ more) +ℤ rest ≡ (out +ℤ x) +ℤ y
both_balance true out new x more y rest l r net e f g h = omega (arith, ints, e, f, g, h)
both_balance false out new x more y rest l r net e f g h = omega (arith, ints, e, f, g, h)

-- both sides have it
pub both_have : (v : ℕ) (l m r s out new : List NormalTerm) (t u : NormalTerm) (net : ℤ) → l ≡ t ∷ m → r ≡ u ∷ s → v ≡ t.var.0 → v ≡ u.var.0 → net ≡ rise_of t +ℤ rise_of u
    → ((set : ℕ → Bool) → rises_of set new ≡ rises_of set out +ℤ cond (set (t.var.0)) net (pos 0)) → Rises v l → Rises v r → variable_bound new ≤ t.var.0 + 1 → (Rises 0 out → Rises 0 new)
    → IsMergedAt v l m r s out new
both_have v l m r s out new t u net e f same other sum gives rises others b up = record {
  balance = λ set. both_balance (set (t.var.0)) (rises_of set out) (rises_of set new) (rises_of set l) (rises_of set m) (rises_of set r) (rises_of set s) (rise_of t) (rise_of u) net (gives set) (ap (rises_of set) e)
      (ap (rises_of set) f ∙ ap (λ (x : ℕ). cond (set x) (rise_of u) (pos 0) +ℤ rises_of set s) (sym other ∙ same)) sum;
  left = subst (λ (x : ℕ). Rises (x + 1) m) (sym same) (subst (λ (xs : List NormalTerm). Rises v xs) e rises).2;
  right = subst (λ (x : ℕ). Rises (x + 1) s) (sym other) (subst (λ (xs : List NormalTerm). Rises v xs) f others).2;
  bound = omega (arith, b, same);
  rises = up;
}

-- so far `out` is merged, and the variables v and w are the next ones of what is left
pub record IsMerging (left right out l r : List NormalTerm) (v w : ℕ) : Type 0 where
  pub on_left : IsFirst l v
  pub on_right : IsFirst r w
  pub left_rises : Rises (min v w) l
  pub right_rises : Rises (min v w) r
  pub bound : variable_bound out ≤ min v w
  pub rises : Rises 0 out
  pub balance : (set : ℕ → Bool) → (rises_of set out +ℤ rises_of set l) +ℤ rises_of set r ≡ rises_of set left +ℤ rises_of set right

-- at first nothing is
pub begun : (left right out : List NormalTerm) (j k v w : ℕ) → out ≡ [] → j ≡ 0 → k ≡ 0 → Rises 0 left → Rises 0 right → IsFirst left v → IsFirst right w
    → IsMerging left right out (drop j left) (drop k right) v w
begun left right out j k v w none e f rl rr is also =
    let whole : drop j left ≡ left = ap (λ (n : ℕ). drop n left) e in
    let other : drop k right ≡ right = ap (λ (n : ℕ). drop n right) f in
    record {
      on_left = subst (λ (ts : List NormalTerm). IsFirst ts v) (sym whole) is;
      on_right = subst (λ (ts : List NormalTerm). IsFirst ts w) (sym other) also;
      left_rises = rises_from 0 (min v w) (drop j left) (subst (λ (ts : List NormalTerm). Rises 0 ts) (sym whole) rl) (omega (arith, is.first, ap first_variable whole));
      right_rises = rises_from 0 (min v w) (drop k right) (subst (λ (ts : List NormalTerm). Rises 0 ts) (sym other) rr) (omega (arith, also.first, ap first_variable other));
      bound = omega (arith, ap variable_bound none);
      rises = subst (λ (ts : List NormalTerm). Rises 0 ts) (sym none) tt;
      balance = λ set. omega (arith, ints, ap (rises_of set) none, ap (rises_of set) whole, ap (rises_of set) other);
    }

-- the next variables are above the one that was merged
pub further : (v w x y : ℕ) (m s : List NormalTerm) → Rises (min v w + 1) m → Rises (min v w + 1) s → min v w < most_names → IsFirst m x → IsFirst s y → min v w + 1 ≤ min x y
further v w x y m s rm rs some is also = omega (arith, first_above (min v w + 1) m rm (omega (arith, some)), first_above (min v w + 1) s rs (omega (arith, some)), is.first, also.first)

-- one variable more
pub merged_more : (left right out new l m r s : List NormalTerm) (v w x y : ℕ) → IsMerging left right out l r v w → IsMergedAt (min v w) l m r s out new → min v w < most_names → IsFirst m x → IsFirst s y
    → IsMerging left right new m s x y
merged_more left right out new l m r s v w x y so h some is also = record {
  on_left = is;
  on_right = also;
  left_rises = rises_from (min v w + 1) (min x y) m h.left (omega (arith, is.first));
  right_rises = rises_from (min v w + 1) (min x y) s h.right (omega (arith, also.first));
  bound = omega (arith, h.bound, further v w x y m s h.left h.right some is also);
  rises = h.rises so.rises;
  balance = λ set. h.balance set ∙ so.balance set;
}

-- behind the last variable all is
pub all_merged : (left right out l r : List NormalTerm) (v w : ℕ) → IsMerging left right out l r v w → most_names ≤ min v w → (set : ℕ → Bool) → rises_of set out ≡ rises_of set left +ℤ rises_of set right
all_merged left right out l r v w so end set =
    omega (arith, ints, so.balance set, ap (rises_of set) (so.on_left.last (omega (arith, end))), ap (rises_of set) (so.on_right.last (omega (arith, end))))

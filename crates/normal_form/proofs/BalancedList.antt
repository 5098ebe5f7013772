-- A list of terms that balances given signed terms, by putting in one after another: so each signed constraint has
-- a normal form.
use Rattle.std.proofs.Common.{◌≡◌, ℕ, zero, suc, ◌+◌, ◌≤◌, Bool, true, false, cond, eqb, ltb, List, [], ◌∷◌, refl, ap, ◌∙◌, arith}
use Rattle.std.specs.Prelude.{ℤ, pos, negsuc, ◌+ℤ◌, neg_ℤ, ◌≤ℤ◌, unsigned_abs}
use Rattle.std.proofs.lemmas.Bool.{ltb-true, eqb-true}
use Rattle.std.proofs.lemmas.Bool.Decides.{nat_tests}
use Rattle.std.proofs.lemmas.Int.{ints}
use Rattle.linear.specs.declared.term.Term.{Term}
use Rattle.normal_form.specs.declared.term.NormalTerm.{NormalTerm}
use Rattle.normal_form.specs.Normal.{sum_over, total, Rises}
use Rattle.normal_form.specs.NormalOf.{at_least_zero, slope, negated_sum, size_sum}
use Rattle.normal_form.specs.Balance.{rise_of, rises_of, Balances}

-- a net coefficient at the front, as a term where it is not 0
abbrev pub with_net : ℕ → ℤ → List NormalTerm → List NormalTerm
with_net v (pos zero) ts = ts
with_net v (pos (suc n)) ts = record { coef = suc n; var = record { 0 = v }; negated = false } ∷ ts
with_net v (negsuc n) ts = record { coef = suc n; var = record { 0 = v }; negated = true } ∷ ts

abbrev pub inserted : ℕ → ℤ → List NormalTerm → List NormalTerm
inserted v z [] = with_net v z []
inserted v z (t ∷ ts) = cond (ltb v (t.var.0)) (with_net v z (t ∷ ts)) (cond (eqb v (t.var.0)) (with_net v (z +ℤ rise_of t) ts) (t ∷ inserted v z ts))

abbrev pub formed : List Term → List NormalTerm
formed [] = []
formed (t ∷ ts) = inserted (t.var.0) (slope t) (formed ts)

-- a fact of each of three choices is one of what is chosen
chosen : (P : List NormalTerm → Type 0) (b d : Bool) (xs ys zs : List NormalTerm) → (b ≡ true → P xs) → (d ≡ true → P ys) → (b ≡ false → d ≡ false → P zs) → P (cond b xs (cond d ys zs))
chosen P true d xs ys zs f g h = f refl
chosen P false true xs ys zs f g h = g refl
chosen P false false xs ys zs f g h = h refl refl

none_given : (b : Bool) (z : ℤ) → z ≡ cond b (pos 0) (pos 0) +ℤ z
none_given true z = omega (arith, ints)
none_given false z = omega (arith, ints)

with_net_gives : (set : ℕ → Bool) (v : ℕ) (z : ℤ) (ts : List NormalTerm) → rises_of set (with_net v z ts) ≡ cond (set v) z (pos 0) +ℤ rises_of set ts
with_net_gives set v (pos zero) ts = none_given (set v) (rises_of set ts)
with_net_gives set v (pos (suc n)) ts = refl
with_net_gives set v (negsuc n) ts = refl

both_given : (b : Bool) (z w u : ℤ) → cond b (z +ℤ w) (pos 0) +ℤ u ≡ cond b z (pos 0) +ℤ (cond b w (pos 0) +ℤ u)
both_given true z w u = omega (arith, ints)
both_given false z w u = omega (arith, ints)

pub inserted_gives : (set : ℕ → Bool) (v : ℕ) (z : ℤ) (ts : List NormalTerm) → rises_of set (inserted v z ts) ≡ cond (set v) z (pos 0) +ℤ rises_of set ts
inserted_gives set v z [] = with_net_gives set v z []
inserted_gives set v z (t ∷ ts) = chosen (λ us. rises_of set us ≡ cond (set v) z (pos 0) +ℤ rises_of set (t ∷ ts)) (ltb v (t.var.0)) (eqb v (t.var.0)) (with_net v z (t ∷ ts)) (with_net v (z +ℤ rise_of t) ts) (t ∷ inserted v z ts)
    (λ b. with_net_gives set v z (t ∷ ts))
    (λ d. with_net_gives set v (z +ℤ rise_of t) ts ∙ both_given (set v) z (rise_of t) (rises_of set ts) ∙ ap (λ (x : ℕ). cond (set v) z (pos 0) +ℤ (cond (set x) (rise_of t) (pos 0) +ℤ rises_of set ts)) (eqb-true v (t.var.0) d))
    (λ b d. omega (arith, ints, inserted_gives set v z ts))

pub formed_balances : (ts : List Term) → Balances ts (formed ts)
formed_balances [] set = refl
formed_balances (t ∷ ts) set = inserted_gives set (t.var.0) (slope t) (formed ts) ∙ ap (λ (z : ℤ). cond (set (t.var.0)) (slope t) (pos 0) +ℤ z) (formed_balances ts set)

pub rises_lower : (low high : ℕ) (ts : List NormalTerm) → low ≤ high → Rises high ts → Rises low ts
rises_lower low high [] h r = tt
rises_lower low high (t ∷ ts) h r = (omega (arith, h, r.0), r.1, r.2)

with_net_rises : (low v : ℕ) (z : ℤ) (ts : List NormalTerm) → low ≤ v → Rises (v + 1) ts → Rises low (with_net v z ts)
with_net_rises low v (pos zero) ts h r = rises_lower low (v + 1) ts (omega (arith, h)) r
with_net_rises low v (pos (suc n)) ts h r = (h, omega arith, r)
with_net_rises low v (negsuc n) ts h r = (h, omega arith, r)

past : (v w : ℕ) → ltb v w ≡ false → eqb v w ≡ false → w + 1 ≤ v
past v w b d = grind (arith, nat_tests)

inserted_rises : (low v : ℕ) (z : ℤ) (ts : List NormalTerm) → low ≤ v → Rises low ts → Rises low (inserted v z ts)
inserted_rises low v z [] h r = with_net_rises low v z [] h tt
inserted_rises low v z (t ∷ ts) h r = chosen (λ us. Rises low us) (ltb v (t.var.0)) (eqb v (t.var.0)) (with_net v z (t ∷ ts)) (with_net v (z +ℤ rise_of t) ts) (t ∷ inserted v z ts)
    (λ b. with_net_rises low v z (t ∷ ts) h (omega (arith, ltb-true v (t.var.0) b), r.1, r.2))
    (λ d. with_net_rises low v (z +ℤ rise_of t) ts h (rises_lower (v + 1) (t.var.0 + 1) ts (omega (arith, eqb-true v (t.var.0) d)) r.2))
    (λ b d. (r.0, r.1, inserted_rises (t.var.0 + 1) v z ts (past v (t.var.0) b d) r.2))

pub formed_rises : (ts : List Term) → Rises 0 (formed ts)
formed_rises [] = tt
formed_rises (t ∷ ts) = inserted_rises 0 (t.var.0) (slope t) (formed ts) (omega arith) (formed_rises ts)

-- the coefficient sum and the negated coefficients grow by no more than the size of what is put in
with_net_total : (v : ℕ) (z : ℤ) (ts : List NormalTerm) → total (with_net v z ts) ≡ unsigned_abs z + total ts
with_net_total v (pos zero) ts = omega arith
with_net_total v (pos (suc n)) ts = refl
with_net_total v (negsuc n) ts = refl

merged_size : (s : Bool) (c : ℕ) (z : ℤ) → unsigned_abs (z +ℤ cond s (neg_ℤ (pos c)) (pos c)) ≤ unsigned_abs z + c
merged_size true c z = omega (arith, ints)
merged_size false c z = omega (arith, ints)

inserted_total : (v : ℕ) (z : ℤ) (ts : List NormalTerm) → total (inserted v z ts) ≤ unsigned_abs z + total ts
inserted_total v z [] = omega (arith, with_net_total v z [])
inserted_total v z (t ∷ ts) = chosen (λ us. total us ≤ unsigned_abs z + total (t ∷ ts)) (ltb v (t.var.0)) (eqb v (t.var.0)) (with_net v z (t ∷ ts)) (with_net v (z +ℤ rise_of t) ts) (t ∷ inserted v z ts)
    (λ b. omega (arith, with_net_total v z (t ∷ ts)))
    (λ d. omega (arith, with_net_total v (z +ℤ rise_of t) ts, merged_size t.negated t.coef z))
    (λ b d. omega (arith, inserted_total v z ts))

slope_size : (s : Bool) (z : ℤ) → unsigned_abs (cond s (neg_ℤ z) z) ≡ unsigned_abs z
slope_size true z = omega (arith, ints)
slope_size false z = refl

pub formed_total : (ts : List Term) → total (formed ts) ≤ size_sum ts
formed_total [] = omega arith
formed_total (t ∷ ts) = omega (arith, inserted_total (t.var.0) (slope t) (formed ts), slope_size t.negated t.coef, formed_total ts)

abbrev pub negated_part : List NormalTerm → ℕ
negated_part = sum_over (λ _ negated. negated)

with_net_negated : (v : ℕ) (z : ℤ) (ts : List NormalTerm) → negated_part (with_net v z ts) ≡ at_least_zero (neg_ℤ z) + negated_part ts
with_net_negated v (pos zero) ts = omega arith
with_net_negated v (pos (suc n)) ts = refl
with_net_negated v (negsuc n) ts = refl

-- max(0, z) as a number of the least bounds
floor_is : (z : ℤ) → (z ≤ℤ (pos (at_least_zero z))) × (at_least_zero z ≤ unsigned_abs z)
floor_is (pos n) = (omega (arith, ints), omega (arith, ints))
floor_is (negsuc n) = (omega (arith, ints), omega (arith, ints))

floor_least : (z : ℤ) (n : ℕ) → z ≤ℤ (pos n) → at_least_zero z ≤ n
floor_least (pos m) n h = omega (arith, ints, h)
floor_least (negsuc m) n h = omega (arith, ints, h)

merged_negated : (s : Bool) (c : ℕ) (z : ℤ) → at_least_zero (neg_ℤ (z +ℤ cond s (neg_ℤ (pos c)) (pos c))) ≤ at_least_zero (neg_ℤ z) + cond s c 0
merged_negated true c z = floor_least (neg_ℤ (z +ℤ neg_ℤ (pos c))) (at_least_zero (neg_ℤ z) + c) (omega (arith, ints, (floor_is (neg_ℤ z)).0))
merged_negated false c z = floor_least (neg_ℤ (z +ℤ pos c)) (at_least_zero (neg_ℤ z) + 0) (omega (arith, ints, (floor_is (neg_ℤ z)).0))

inserted_negated : (v : ℕ) (z : ℤ) (ts : List NormalTerm) → negated_part (inserted v z ts) ≤ at_least_zero (neg_ℤ z) + negated_part ts
inserted_negated v z [] = omega (arith, with_net_negated v z [])
inserted_negated v z (t ∷ ts) = chosen (λ us. negated_part us ≤ at_least_zero (neg_ℤ z) + negated_part (t ∷ ts)) (ltb v (t.var.0)) (eqb v (t.var.0)) (with_net v z (t ∷ ts)) (with_net v (z +ℤ rise_of t) ts) (t ∷ inserted v z ts)
    (λ b. omega (arith, with_net_negated v z (t ∷ ts)))
    (λ d. omega (arith, with_net_negated v (z +ℤ rise_of t) ts, merged_negated t.negated t.coef z))
    (λ b d. omega (arith, inserted_negated v z ts))

slope_negated : (s : Bool) (z : ℤ) → (pos (at_least_zero (neg_ℤ (cond s (neg_ℤ z) z)))) ≤ℤ (cond s z (pos 0) +ℤ pos (unsigned_abs z))
slope_negated true (pos n) = omega (arith, ints, floor_least (neg_ℤ (neg_ℤ (pos n))) n (omega (arith, ints)))
slope_negated true (negsuc n) = omega (arith, ints, floor_least (neg_ℤ (neg_ℤ (negsuc n))) 0 (omega (arith, ints)))
slope_negated false z = omega (arith, ints, floor_least (neg_ℤ z) (unsigned_abs z) (omega (arith, ints)))

pub formed_negated : (ts : List Term) → (pos (negated_part (formed ts))) ≤ℤ (negated_sum ts +ℤ pos (size_sum ts))
formed_negated [] = omega (arith, ints)
formed_negated (t ∷ ts) = omega (arith, ints, inserted_negated (t.var.0) (slope t) (formed ts), slope_negated t.negated t.coef, formed_negated ts)

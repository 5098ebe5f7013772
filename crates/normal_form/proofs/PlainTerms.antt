-- Terms that stand as a normal constraint has them balance, and lift no degree.
use Rattle.std.proofs.Common.{◌≡◌, ◌∙◌, ℕ, zero, suc, ◌+◌, ◌<◌, ◌≤◌, Bool, true, false, cond, List, [], ◌∷◌, ◌++◌, length, get_or, map, take, refl, ap, sym, subst, arith}
use Rattle.std.specs.Prelude.{ℤ, pos, neg_ℤ, ◌+ℤ◌, ◌<ℤ◌, unsigned_abs}
use Rattle.std.proofs.lemmas.Int.{ints}
use Rattle.std.proofs.lemmas.List.{take_more, take-map, length-map}
use Rattle.std.proofs.Math.ListN.{get_or-map}
use Rattle.linear.specs.declared.term.Term.{Term}
use Rattle.normal_form.specs.declared.term.NormalTerm.{NormalTerm}
use Rattle.normal_form.specs.Normal.{Rises, sum_over, variable_bound}
use Rattle.normal_form.specs.NormalOf.{negated_sum, slope}
use Rattle.normal_form.specs.Balance.{Balances, rise_of, rises_of, slopes}
use Rattle.normal_form.specs.Plain.{ArePlain, plain_term}
use Rattle.normal_form.proofs.Sums.{bound_take, rises_at}

-- the number behind the last variable
abbrev pub behind : ℕ → List Term → ℕ
behind low [] = low
behind low (t ∷ ts) = behind (t.var.0 + 1) ts

plain_push : (low : ℕ) (ts : List Term) (t : Term) → ArePlain low ts → behind low ts ≤ t.var.0 → pos 0 <ℤ t.coef → ArePlain low (ts ++ t ∷ [])
plain_push low [] t a b p = (b, p, tt)
plain_push low (x ∷ xs) t a b p = (a.0, a.1, plain_push (x.var.0 + 1) xs t a.2 b p)

behind_push : (low : ℕ) (ts : List Term) (t : Term) → behind low (ts ++ t ∷ []) ≡ t.var.0 + 1
behind_push low [] t = refl
behind_push low (x ∷ xs) t = behind_push (x.var.0 + 1) xs t

-- one term more is plain
pub plain_more : (ts : List Term) (i : ℕ) (t : Term) → i < length ts → t ≡ get_or ts i t → ArePlain 0 (take i ts) → behind 0 (take i ts) ≤ t.var.0 → pos 0 <ℤ t.coef
    → ArePlain 0 (take (i + 1) ts) × (behind 0 (take (i + 1) ts) ≡ t.var.0 + 1)
plain_more ts i t h e a b p =
    let more : take (i + 1) ts ≡ take i ts ++ t ∷ [] = take_more ts i t h ∙ ap (λ (x : Term). take i ts ++ x ∷ []) (sym e) in
    rw more (plain_push 0 (take i ts) t a b p, behind_push 0 (take i ts) t)

above : (z : ℤ) → pos 0 <ℤ z → 0 < unsigned_abs z
above z p = omega (arith, ints, p)

same_number : (z : ℤ) → pos 0 <ℤ z → pos (unsigned_abs z) ≡ z
same_number z p = omega (arith, ints, p)

pub plain_rises : (low : ℕ) (ts : List Term) → ArePlain low ts → Rises low (map plain_term ts)
plain_rises low [] a = tt
plain_rises low (t ∷ ts) a = (a.0, above t.coef a.1, plain_rises (t.var.0 + 1) ts a.2)

-- a term at a place has a coefficient above 0, and a variable above those of the terms before
pub plain_coefficient : (ts : List Term) (i : ℕ) (t : Term) → ArePlain 0 ts → i < length ts → t ≡ get_or ts i t → 0 < unsigned_abs t.coef
plain_coefficient ts i t a h e =
    let there : get_or (map plain_term ts) i (plain_term t) ≡ plain_term t = get_or-map plain_term ts i t ∙ ap plain_term (sym e) in
    subst (λ (n : NormalTerm). 0 < n.coef) there (rises_at 0 (map plain_term ts) i (plain_term t) (plain_rises 0 ts a) (omega (arith, h, length-map ts plain_term)))

pub plain_below : (ts : List Term) (made : List NormalTerm) (i : ℕ) (t : Term) → ArePlain 0 ts → i < length ts → made ≡ map plain_term (take i ts) → t ≡ get_or ts i t → variable_bound made ≤ t.var.0
plain_below ts made i t a h m e =
    let there : get_or (map plain_term ts) i (plain_term t) ≡ plain_term t = get_or-map plain_term ts i t ∙ ap plain_term (sym e) in
    let before : made ≡ take i (map plain_term ts) = m ∙ sym (take-map plain_term i ts) in
    omega (arith, ap variable_bound before, bound_take 0 (map plain_term ts) i (plain_term t) (plain_rises 0 ts a) (omega (arith, h, length-map ts plain_term)), ap (λ (n : NormalTerm). n.var.0) there)

rise_same : (b : Bool) (z : ℤ) → pos 0 <ℤ z → cond b (neg_ℤ (pos (unsigned_abs z))) (pos (unsigned_abs z)) ≡ cond b (neg_ℤ z) z
rise_same true z p = ap neg_ℤ (same_number z p)
rise_same false z p = same_number z p

both_balance : (b : Bool) (x y more rest : ℤ) → x ≡ y → more ≡ rest → cond b x (pos 0) +ℤ more ≡ cond b y (pos 0) +ℤ rest
both_balance true x y more rest e f = omega (arith, ints, e, f)
both_balance false x y more rest e f = omega (arith, ints, f)

pub plain_balances : (low : ℕ) (ts : List Term) → ArePlain low ts → Balances ts (map plain_term ts)
plain_balances low [] a set = refl
plain_balances low (t ∷ ts) a set =
    both_balance (set (t.var.0)) (rise_of (plain_term t)) (slope t) (rises_of set (map plain_term ts)) (slopes set ts) (rise_same t.negated t.coef a.1) (plain_balances (t.var.0 + 1) ts a.2 set)

both_count : (b : Bool) (z : ℤ) (n : ℕ) (m : ℤ) → pos 0 <ℤ z → pos n ≡ m → pos (cond b (unsigned_abs z) 0 + n) ≡ cond b z (pos 0) +ℤ m
both_count true z n m p e = omega (arith, ints, same_number z p, e)
both_count false z n m p e = omega (arith, ints, e)

pub negated_same : (low : ℕ) (ts : List Term) → ArePlain low ts → pos (sum_over (λ _ negated. negated) (map plain_term ts)) ≡ negated_sum ts
negated_same low [] a = refl
negated_same low (t ∷ ts) a = both_count t.negated t.coef (sum_over (λ _ negated. negated) (map plain_term ts)) (negated_sum ts) a.1 (negated_same (t.var.0 + 1) ts a.2)

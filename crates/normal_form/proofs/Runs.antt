-- Steps of the loops over signed terms.
use Rattle.std.proofs.Common.{◌≡◌, ℕ, zero, suc, ◌+◌, ◌<◌, ◌≤◌, Bool, true, false, cond, List, [], ◌∷◌, ◌++◌, length, take, get_or, refl, ap, ◌∙◌, arith}
use Rattle.std.specs.Prelude.{ℤ, pos, negsuc, ◌+ℤ◌, neg_ℤ, unsigned_abs, int_lt}
use Rattle.std.proofs.lemmas.Int.{ints}
use Rattle.std.proofs.lemmas.List.{take_more}
use Rattle.linear.specs.declared.term.Term.{Term}
use Rattle.normal_form.specs.declared.term.NormalTerm.{NormalTerm}
use Rattle.normal_form.specs.NormalOf.{slope, negated_sum, size_sum}
use Rattle.normal_form.specs.Balance.{slopes, rise_of, rises_of}

size_push : (ts : List Term) (t : Term) → size_sum (ts ++ t ∷ []) ≡ size_sum ts + unsigned_abs t.coef
size_push [] t = omega arith
size_push (x ∷ xs) t = omega (arith, size_push xs t)

pub size_more : (ts : List Term) (i : ℕ) (d : Term) → i < length ts → size_sum (take (i + 1) ts) ≡ size_sum (take i ts) + unsigned_abs (get_or ts i d).coef
size_more ts i d h = ap size_sum (take_more ts i d h) ∙ size_push (take i ts) (get_or ts i d)

pub size_take : (i : ℕ) (ts : List Term) → size_sum (take i ts) ≤ size_sum ts
size_take zero ts = omega arith
size_take (suc i) [] = omega arith
size_take (suc i) (t ∷ ts) = omega (arith, size_take i ts)

-- no coefficient is larger than the sum of the sizes
pub size_at : (ts : List Term) (i : ℕ) (d : Term) → i < length ts → unsigned_abs (get_or ts i d).coef ≤ size_sum ts
size_at ts i d h = omega (arith, size_more ts i d h, size_take (i + 1) ts)

slopes_push : (set : ℕ → Bool) (ts : List Term) (t : Term) → slopes set (ts ++ t ∷ []) ≡ slopes set ts +ℤ cond (set (t.var.0)) (slope t) (pos 0)
slopes_push set [] t = omega (arith, ints)
slopes_push set (x ∷ xs) t = omega (arith, ints, slopes_push set xs t)

pub slopes_more : (set : ℕ → Bool) (ts : List Term) (i : ℕ) (d : Term) → i < length ts → slopes set (take (i + 1) ts) ≡ slopes set (take i ts) +ℤ cond (set ((get_or ts i d).var.0)) (slope (get_or ts i d)) (pos 0)
slopes_more set ts i d h = ap (slopes set) (take_more ts i d h) ∙ slopes_push set (take i ts) (get_or ts i d)

pub rises_of_push : (set : ℕ → Bool) (ts : List NormalTerm) (t : NormalTerm) → rises_of set (ts ++ t ∷ []) ≡ rises_of set ts +ℤ cond (set (t.var.0)) (rise_of t) (pos 0)
rises_of_push set [] t = omega (arith, ints)
rises_of_push set (x ∷ xs) t = omega (arith, ints, rises_of_push set xs t)

-- the term of a net coefficient gives it
pub rise_of_net : (z : ℤ) (negative : Bool) (c : ℕ) → negative ≡ int_lt z (pos 0) → c ≡ unsigned_abs z → cond negative (neg_ℤ (pos c)) (pos c) ≡ z
rise_of_net (pos n) true c e f = absurd (grind (arith, ints))
rise_of_net (pos n) false c e f = omega (arith, ints, f)
rise_of_net (negsuc n) true c e f = omega (arith, ints, f)
rise_of_net (negsuc n) false c e f = absurd (grind (arith, ints))

-- one more term of the run's variable
pub run_more : (b : Bool) (u v w net z sum : ℤ) → u ≡ v +ℤ cond b net (pos 0) → w ≡ u +ℤ cond b z (pos 0) → sum ≡ net +ℤ z → w ≡ v +ℤ cond b sum (pos 0)
run_more true u v w net z sum e f s = omega (arith, ints, e, f, s)
run_more false u v w net z sum e f s = omega (arith, ints, e, f, s)

pub slope_size : (s : Bool) (z : ℤ) → unsigned_abs (cond s (neg_ℤ z) z) ≡ unsigned_abs z
slope_size true z = omega (arith, ints)
slope_size false z = refl

-- the size of a net coefficient stays below the sizes so far
pub run_size : (t : Term) (net sum : ℤ) (before after : ℕ) → unsigned_abs net ≤ before → after ≡ before + unsigned_abs t.coef → sum ≡ net +ℤ slope t → unsigned_abs sum ≤ after
run_size t net sum before after h e f = omega (arith, ints, h, e, f, slope_size t.negated t.coef)

negated_push : (ts : List Term) (t : Term) → negated_sum (ts ++ t ∷ []) ≡ negated_sum ts +ℤ cond t.negated t.coef (pos 0)
negated_push [] t = omega (arith, ints)
negated_push (x ∷ xs) t = omega (arith, ints, negated_push xs t)

pub negated_more : (ts : List Term) (i : ℕ) (d : Term) → i < length ts → negated_sum (take (i + 1) ts) ≡ negated_sum (take i ts) +ℤ cond (get_or ts i d).negated (get_or ts i d).coef (pos 0)
negated_more ts i d h = ap negated_sum (take_more ts i d h) ∙ negated_push (take i ts) (get_or ts i d)

negated_part_size : (s : Bool) (z : ℤ) → unsigned_abs (cond s z (pos 0)) ≤ unsigned_abs z
negated_part_size true z = omega (arith, ints)
negated_part_size false z = omega (arith, ints)

-- the negated terms' coefficients add up to no more than all sizes
pub negated_size : (ts : List Term) → unsigned_abs (negated_sum ts) ≤ size_sum ts
negated_size [] = omega arith
negated_size (t ∷ ts) = omega (arith, ints, negated_part_size t.negated t.coef, negated_size ts)

pub negated_size_take : (i : ℕ) (ts : List Term) → unsigned_abs (negated_sum (take i ts)) ≤ size_sum ts
negated_size_take i ts = omega (arith, negated_size (take i ts), size_take i ts)

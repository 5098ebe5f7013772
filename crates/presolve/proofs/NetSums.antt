-- Net coefficients, term by term.
use Rattle.std.proofs.Common.{◌≡◌, ℕ, ◌+◌, ◌<◌, ◌≤◌, ◌==◌, Bool, true, false, cond, List, [], ◌∷◌, ◌++◌, take, length, get_or, unsigned_abs, ap, ◌∙◌, arith}
use Rattle.std.specs.Prelude.{ℤ, pos, ◌+ℤ◌}
use Rattle.std.proofs.lemmas.Int.{ints}
use Rattle.std.proofs.lemmas.List.{take_more}
use Rattle.linear.specs.declared.term.Term.{Term}
use Rattle.normal_form.specs.NormalOf.{net, size_sum, slope}
use Rattle.normal_form.proofs.Runs.{size_more, size_take, slope_size}

net_push : (v : ℕ) (ts : List Term) (t : Term) → net (ts ++ t ∷ []) v ≡ net ts v +ℤ cond (t.var.0 == v) (slope t) (pos 0)
net_push v [] t = omega (arith, ints)
net_push v (x ∷ xs) t = omega (arith, ints, net_push v xs t)

pub net_more : (v : ℕ) (ts : List Term) (i : ℕ) (d : Term) → i < length ts → net (take (i + 1) ts) v ≡ net (take i ts) v +ℤ cond ((get_or ts i d).var.0 == v) (slope (get_or ts i d)) (pos 0)
net_more v ts i d h = ap (λ us. net us v) (take_more ts i d h) ∙ net_push v (take i ts) (get_or ts i d)

part_size : (b : Bool) (t : Term) → unsigned_abs (cond b (slope t) (pos 0)) ≤ unsigned_abs t.coef
part_size true t = omega (arith, ints, slope_size t.negated t.coef)
part_size false t = omega (arith, ints)

net_size : (v : ℕ) (ts : List Term) → unsigned_abs (net ts v) ≤ size_sum ts
net_size v [] = omega arith
net_size v (t ∷ ts) = omega (arith, ints, part_size (t.var.0 == v) t, net_size v ts)

-- no net coefficient of the first terms, with the next one, is larger than all sizes
pub net_fits : (v : ℕ) (ts : List Term) (i : ℕ) (d : Term) (z : ℤ) → i < length ts → z ≡ net (take i ts) v → unsigned_abs z + unsigned_abs (get_or ts i d).coef ≤ size_sum ts
net_fits v ts i d z h e = omega (arith, ints, e, net_size v (take i ts), size_more ts i d h, size_take (i + 1) ts)

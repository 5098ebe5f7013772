-- The table of net coefficients, term by term.
use Rattle.std.proofs.Common.{◌≡◌, ℕ, ◌+◌, ◌<◌, ◌≤◌, ◌==◌, Bool, true, false, cond, List, [], ◌∷◌, ◌++◌, take, length, get_or, set, to_z, of_z, ap, sym, ◌∙◌, arith, inl, inr}
use Rattle.std.specs.Prelude.{ℤ, pos, neg_ℤ, ◌+ℤ◌, unsigned_abs}
use Rattle.std.proofs.lemmas.Bool.{cases_eq}
use Rattle.std.proofs.lemmas.Bool.Decides.{nat_tests}
use Rattle.std.proofs.lemmas.Int.{ints}
use Rattle.std.proofs.lemmas.List.{get_or-set_same, get_or-set_other}
use mir.Syntax.{w128}
use Rattle.linear.specs.declared.term.Term.{Term}
use Rattle.normal_form.specs.Normal.{largest_sum}
use Rattle.normal_form.specs.NormalOf.{net, size_sum, slope}
use Rattle.normal_form.proofs.Runs.{size_more, size_take, slope_size}
use Rattle.substitution.specs.Objective.{AreNetsOf}

net_push : (v : ℕ) (ts : List Term) (t : Term) → net (ts ++ t ∷ []) v ≡ net ts v +ℤ cond (t.var.0 == v) (slope t) (pos 0)
net_push v [] t = omega (arith, ints)
net_push v (x ∷ xs) t = omega (arith, ints, net_push v xs t)

part_size : (b : Bool) (t : Term) → unsigned_abs (cond b (slope t) (pos 0)) ≤ unsigned_abs t.coef
part_size true t = omega (arith, ints, slope_size t.negated t.coef)
part_size false t = omega (arith, ints)

net_size : (v : ℕ) (ts : List Term) → unsigned_abs (net ts v) ≤ size_sum ts
net_size v [] = omega arith
net_size v (t ∷ ts) = omega (arith, ints, part_size (t.var.0 == v) t, net_size v ts)

-- no net coefficient of the first terms, with the next one, is larger than all sizes
pub net_fits : (v : ℕ) (ts : List Term) (i : ℕ) (d : Term) (z : ℤ) → i < length ts → z ≡ net (take i ts) v → unsigned_abs z + unsigned_abs (get_or ts i d).coef ≤ size_sum ts
net_fits v ts i d z h e = omega (arith, ints, e, net_size v (take i ts), size_more ts i d h, size_take (i + 1) ts)

pub sum_kept : (x y z : ℤ) → unsigned_abs x + unsigned_abs y ≤ largest_sum → (n : Bool) → z ≡ x +ℤ cond n (neg_ℤ y) y → to_z w128 (of_z w128 z) ≡ x +ℤ cond n (neg_ℤ y) y
sum_kept x y z h true e = omega (arith, ints, h, e)
sum_kept x y z h false e = omega (arith, ints, h, e)

-- a term is added to the net coefficient of its variable
pub noted : (before : List Term) (nets : List ℤ) (t : Term) (z : ℤ) → t.var.0 < length nets → z ≡ get_or nets (t.var.0) (pos 0) +ℤ slope t → AreNetsOf before nets → AreNetsOf (before ++ t ∷ []) (set nets (t.var.0) z)
noted before nets t z inside is are v = elim (cases_eq v (t.var.0)) as (λ _. get_or (set nets (t.var.0) z) v (pos 0) ≡ net (before ++ t ∷ []) v) [
  | inl e ↦
      let own : (t.var.0 == v) ≡ true = grind (arith, nat_tests) in
      let here : get_or (set nets (t.var.0) z) v (pos 0) ≡ z = ap (λ (w : ℕ). get_or (set nets (t.var.0) z) w (pos 0)) e ∙ get_or-set_same nets (t.var.0) z (pos 0) inside in
      let old : get_or nets (t.var.0) (pos 0) ≡ net before v = ap (λ (w : ℕ). get_or nets w (pos 0)) (sym e) ∙ are v in
      let more : net (before ++ t ∷ []) v ≡ net before v +ℤ slope t = net_push v before t ∙ ap (λ (b : Bool). net before v +ℤ cond b (slope t) (pos 0)) own in
      omega (arith, ints, here, is, old, more)
  | inr h ↦
      let other : (t.var.0 == v) ≡ false = grind (arith, nat_tests) in
      let here : get_or (set nets (t.var.0) z) v (pos 0) ≡ get_or nets v (pos 0) = get_or-set_other nets (t.var.0) v z (pos 0) h in
      let more : net (before ++ t ∷ []) v ≡ net before v +ℤ pos 0 = net_push v before t ∙ ap (λ (b : Bool). net before v +ℤ cond b (slope t) (pos 0)) other in
      omega (arith, ints, here, are v, more)
]

pub value_kept : (x z y : ℤ) → x ≡ z → unsigned_abs z + unsigned_abs y ≤ largest_sum → to_z w128 (of_z w128 x) ≡ z
value_kept x z y e h = omega (arith, ints, e, h)

-- Sums over sets of literals, one set within the other, and the set of one literal.
use Rattle.std.proofs.Common.{◌≡◌, ℕ, ◌+◌, ◌≤◌, Bool, true, false, cond, List, [], ◌∷◌, refl, arith}
use Rattle.std.proofs.lemmas.Bool.{false≢true}
use Rattle.std.proofs.lemmas.Bool.Decides.{nat_tests}
use Rattle.normal_form.specs.declared.term.NormalTerm.{NormalTerm}
use Rattle.normal_form.specs.Normal.{Literals, sum_over, only}

-- every literal of the one set is in the other
abbrev pub Within : Literals → Literals → Type 0
Within p q = (v : ℕ) (s : Bool) → p v s ≡ true → q v s ≡ true

-- the set of one literal has no other
pub only_is : (v x : ℕ) (s y : Bool) → only v s x y ≡ true → (x ≡ v) × (y ≡ s)
only_is v x true true h = (grind (arith, nat_tests), refl)
only_is v x true false h = absurd (grind (arith, nat_tests))
only_is v x false true h = absurd (grind (arith, nat_tests))
only_is v x false false h = (grind (arith, nat_tests), refl)

pub only_itself : (v : ℕ) (s : Bool) → only v s v s ≡ true
only_itself v true = grind (arith, nat_tests)
only_itself v false = grind (arith, nat_tests)

part_within : (b d : Bool) (c : ℕ) → (b ≡ true → d ≡ true) → cond b c 0 ≤ cond d c 0
part_within true true c h = omega arith
part_within true false c h = absurd (false≢true (h refl))
part_within false true c h = omega arith
part_within false false c h = omega arith

-- a larger set has no smaller sum
pub sum_within : (p q : Literals) → Within p q → (ts : List NormalTerm) → sum_over p ts ≤ sum_over q ts
sum_within p q h [] = omega arith
sum_within p q h (t ∷ ts) =
    omega (arith, part_within (p (t.var.0) t.negated) (q (t.var.0) t.negated) t.coef (h (t.var.0) t.negated), sum_within p q h ts)

part_apart : (b o d : Bool) (c : ℕ) → (b ≡ true → d ≡ true) → (o ≡ true → b ≡ false) → (o ≡ true → d ≡ true) → cond b c 0 + cond o c 0 ≤ cond d c 0
part_apart true true d c h k m = absurd (false≢true (cc (k refl)))
part_apart false true true c h k m = omega arith
part_apart false true false c h k m = absurd (false≢true (m refl))
part_apart true false true c h k m = omega arith
part_apart true false false c h k m = absurd (false≢true (h refl))
part_apart false false true c h k m = omega arith
part_apart false false false c h k m = omega arith

-- a literal that the larger set alone has adds its coefficient
pub sum_apart : (p q : Literals) (v : ℕ) (s : Bool) → Within p q → p v s ≡ false → q v s ≡ true → (ts : List NormalTerm) → sum_over p ts + sum_over (only v s) ts ≤ sum_over q ts
sum_apart p q v s h out in' [] = omega arith
sum_apart p q v s h out in' (t ∷ ts) =
    let x = t.var.0 in
    let y = t.negated in
    let outside : only v s x y ≡ true → p x y ≡ false = λ o. let e = only_is v x s y o in cc in
    let inside : only v s x y ≡ true → q x y ≡ true = λ o. let e = only_is v x s y o in cc in
    omega (arith, part_apart (p x y) (only v s x y) (q x y) t.coef (h x y) outside inside, sum_apart p q v s h out in' ts)

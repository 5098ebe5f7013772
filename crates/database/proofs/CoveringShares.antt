-- A constraint that covers another shares literals with it that are worth the other's degree there, or is a contradiction.
use Rattle.std.proofs.Common.{◌≡◌, ℕ, zero, suc, ◌+◌, ◌-◌, ◌<◌, ◌≤◌, inl, inr, Bool, true, false, cond, List, [], ◌∷◌, ◌++◌, All, take, drop, refl, sym, ap, ◌∙◌, arith}
use Rattle.std.proofs.lemmas.Bool.{cases_eq, cases_lt}
use Rattle.std.proofs.lemmas.List.Elements.{All-head, All-tail}
use Rattle.normal_form.specs.declared.term.NormalTerm.{NormalTerm}
use Rattle.normal_form.specs.Normal.{Literals, NormalConstraint, coefficient, only, sum_below, sum_over, total, variable_bound}
use Rattle.normal_form.proofs.SetSums.{only_is}
use Rattle.normal_form.proofs.SumsByVariable.{pivot, told}
use Rattle.substitution.specs.Covering.{Covers, excess_at}
use Rattle.propagate.specs.Chain.{IsRefuted}
use Rattle.propagate.specs.Slack.{IsFalsified}
use Rattle.std.proofs.lemmas.Int.{ints}
use Rattle.database.specs.Covered.{HasContradiction}
use Rattle.database.proofs.Showing.{any_left}

sum_parts : (set : Literals) (k : ℕ) (ts : List NormalTerm) → sum_over set ts ≡ sum_over set (take k ts) + sum_over set (drop k ts)
sum_parts set zero ts = omega arith
sum_parts set (suc k) [] = refl
sum_parts set (suc k) (t ∷ ts) = omega (arith, sum_parts set k ts)

-- a literal of which none of some terms is
absent_among : (e : NormalConstraint) (us : List NormalTerm) (v : ℕ) (s : Bool) → All (λ t. coefficient e (t.var.0) t.negated ≡ 0) us → 0 < coefficient e v s → sum_over (only v s) us ≡ 0
absent_among e [] v s none has = refl
absent_among e (t ∷ us) v s none has =
    let here = by (only v s (t.var.0) t.negated) refl in
    let rest = absent_among e us v s (All-tail (λ u. coefficient e (u.var.0) u.negated ≡ 0) t us none) has in
    omega (arith, here, rest)
  where
    by : (b : Bool) → only v s (t.var.0) t.negated ≡ b → cond b t.coef 0 ≡ 0
    by true is =
        let same = only_is v (t.var.0) s t.negated is in
        let zero_there : coefficient e v s ≡ 0 =
        ap (λ (w : ℕ). coefficient e w s) (sym same.0) ∙ ap (λ (b : Bool). coefficient e (t.var.0) b) (sym same.1) ∙ All-head (λ u. coefficient e (u.var.0) u.negated ≡ 0) t us none in
        absurd (omega (arith, zero_there, has))
    by false is = refl

-- a coefficient is what it is more than the other's, and what the other has among the terms that are left
shared_at : (e n : NormalConstraint) (k v : ℕ) (s : Bool) → All (λ t. coefficient e (t.var.0) t.negated ≡ 0) (drop k n.terms) → coefficient e v s ≤ (coefficient e v s - coefficient n v s) + sum_over (only v s) (take k n.terms)
shared_at e n k v s none = elim (cases_lt 0 (coefficient e v s)) as (λ _. coefficient e v s ≤ (coefficient e v s - coefficient n v s) + sum_over (only v s) (take k n.terms)) [
  | inl has ↦ omega (arith, has, absent_among e (drop k n.terms) v s none has, sum_parts (only v s) k n.terms)
  | inr zero_here ↦ omega (arith, zero_here)
]

each_below : (n : ℕ) (f g h : ℕ → ℕ) → ((v : ℕ) → f v ≤ g v + h v) → sum_below n f ≤ sum_below n g + sum_below n h
each_below zero f g h e = omega arith
each_below (suc n) f g h e = omega (arith, e n, each_below n f g h e)

more_below : (m n : ℕ) (f : ℕ → ℕ) → n ≤ m → sum_below n f ≤ sum_below m f
more_below zero zero f h = omega arith
more_below zero (suc n) f h = absurd (omega (arith, h))
more_below (suc m) n f h = elim (cases_eq (suc m) n) as (λ _. sum_below n f ≤ sum_below (suc m) f) [
  | inl e ↦ omega (arith, ap (λ (x : ℕ). sum_below x f) e)
  | inr e ↦ omega (arith, more_below m n f (omega (arith, h, e)))
]

-- what it covers is worth no less than its degree at what they share, unless it is a contradiction
pub covering_shares : (e n : NormalConstraint) (k : ℕ) → All (λ t. coefficient e (t.var.0) t.negated ≡ 0) (drop k n.terms) → Covers e n → total (take k n.terms) < n.degree → total e.terms < e.degree
covering_shares e n k none covers few =
    let every : Literals = λ _ _. true in
    let bound = variable_bound e.terms in
    let left : List NormalTerm = take k n.terms in
    let all = bound + variable_bound left in
    let parts = each_below bound (told every e.terms) (excess_at e n) (told every left) (λ v. omega (arith, shared_at e n k v false none, shared_at e n k v true none)) in
    let whole : total e.terms ≡ sum_below bound (told every e.terms) = pivot every e.terms bound (omega arith) in
    let rest : total left ≡ sum_below all (told every left) = pivot every left all (omega arith) in
    omega (arith, parts, whole, rest, more_below all bound (told every left) (omega arith), covers, few)

-- with a contradiction among them constraints are refuted
pub contradiction_refuted : (live more : List NormalConstraint) → HasContradiction live → IsRefuted (live ++ more)
contradiction_refuted live more has =
    ([], tt, any_left (IsFalsified []) live more (has.0, has.1, has.2, has.3, falsified has.1 has.4))
  where
    falsified : (e : NormalConstraint) → total e.terms < e.degree → IsFalsified [] e
    falsified e h = omega (arith, ints, h)

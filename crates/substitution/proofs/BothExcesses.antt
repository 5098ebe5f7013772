-- What one constraint has more than another, and what the other has more than it; each told by looking up its terms one after another.
use Rattle.std.proofs.Common.{◌≡◌, ◌↔◌, ℕ, ◌+◌, ◌-◌, ◌<◌, ◌≤◌, nat_le, IsTrue, true, false, List, get_or, length, take, ap, sym, arith}
use Rattle.std.proofs.lemmas.Bool.Decides.{nat_tests}
use Rattle.normal_form.specs.declared.term.NormalTerm.{NormalTerm}
use Rattle.normal_form.specs.Normal.{Literals, NormalConstraint, coefficient, sum_below, total, variable_bound}
use Rattle.normal_form.proofs.SumsByVariable.{absent_above, add_up, none_above, pivot, told}
use Rattle.substitution.specs.Covering.{Covers, excess, excess_at}
use Rattle.substitution.proofs.Excess.{term_excess}
use Rattle.substitution.proofs.Pass.{excess_more}

-- one term more
pub excess_step : (es : List NormalTerm) (n : NormalConstraint) (i : ℕ) (u : NormalTerm) (now c step : ℕ) → i < length es → u ≡ get_or es i u → now ≡ term_excess (take i es) n → c ≡ coefficient n (u.var.0) u.negated → step ≡ u.coef - c
    → now + step ≡ term_excess (take (i + 1) es) n
excess_step es n i u now c step inside is so_far reads subtracted =
    let same : (get_or es i u).coef - coefficient n ((get_or es i u).var.0) (get_or es i u).negated ≡ u.coef - coefficient n (u.var.0) u.negated = ap (λ (t : NormalTerm). t.coef - coefficient n (t.var.0) t.negated) (sym is) in
    omega (arith, excess_more es i u n inside, same, so_far, reads, subtracted)

none_more : (c d : ℕ) → c ≡ 0 → c - d ≡ 0
none_more c d h = omega (arith, h)

-- there is no excess where there are no terms
excess_below : (e n : NormalConstraint) (bound : ℕ) → variable_bound e.terms ≤ bound → sum_below bound (excess_at e n) ≡ excess e n
excess_below e n bound h =
    none_above bound (variable_bound e.terms) (excess_at e n) h
    (λ v high. omega (arith, none_more (coefficient e v false) (coefficient n v false) (absent_above e.terms v false high), none_more (coefficient e v true) (coefficient n v true) (absent_above e.terms v true high)))

each_literal : (a b c d : ℕ) → ((a - c) + (b - d)) + (c + d) ≡ (a + b) + ((c - a) + (d - b))
each_literal a b c d = omega arith

-- the one excess less the other is the difference of the coefficient sums
pub both_excesses : (e n : NormalConstraint) → excess e n + total n.terms ≡ total e.terms + excess n e
both_excesses e n =
    let every : Literals = λ _ _. true in
    let bound = variable_bound e.terms + variable_bound n.terms in
    let each = add_up bound (excess_at e n) (told every n.terms) (told every e.terms) (excess_at n e) (λ v. each_literal (coefficient e v false) (coefficient e v true) (coefficient n v false) (coefficient n v true)) in
    omega (arith, each, pivot every e.terms bound (omega arith), pivot every n.terms bound (omega arith), excess_below e n bound (omega arith), excess_below n e bound (omega arith))

-- so covering is told by either
covers_by_other : (e n : NormalConstraint) → Covers e n ↔ (((n.degree + total e.terms) + excess n e) ≤ (e.degree + total n.terms))
covers_by_other e n = (λ c. omega (arith, c, both_excesses e n), λ h. omega (arith, h, both_excesses e n))

below_tested : (a b : ℕ) → IsTrue (nat_le a b) ↔ (a ≤ b)
below_tested a b = (λ t. grind (arith, nat_tests), λ h. grind (arith, nat_tests))

-- as the code asks
pub tested_by_other : (e n : NormalConstraint) (a b : ℕ) → a ≡ (n.degree + total e.terms) + excess n e → b ≡ e.degree + total n.terms → IsTrue (nat_le a b) ↔ Covers e n
tested_by_other e n a b left right = (
  λ t. let less = (below_tested a b).0 t in (covers_by_other e n).1 (omega (arith, less, left, right)),
  λ c. let less = (covers_by_other e n).0 c in (below_tested a b).1 (omega (arith, less, left, right)),
)

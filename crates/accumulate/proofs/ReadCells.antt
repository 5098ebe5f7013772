-- What is read off a cell, and off the marks.
use Rattle.std.proofs.Common.{◌≡◌, ℕ, ◌<◌, ◌≤◌, Bool, true, false, List, length, get_or, ap, sym, ◌∙◌, arith, to_z, of_z, Contains}
use mir.Syntax.{w128}
use Rattle.std.specs.Prelude.{ℤ, pos, neg_ℤ}
use Rattle.normal_form.specs.Normal.{NormalConstraint, coefficient}
use Rattle.normal_form.specs.NormalOf.{at_least_zero}
use Rattle.accumulate.specs.Nets.{IsKept, IsMarked, constraint_of}
use Rattle.accumulate.proofs.Coefficients.{beyond_all, coefficients_at, defaulted}
use Rattle.accumulate.proofs.CappedCells.{cell_size, whole}

-- a number of a cell, as it is read
read : (ns : List ℤ) (marks : List ℕ) (sum degree v : ℕ) (net : ℤ) → IsKept ns marks sum degree → v < length ns → net ≡ get_or ns v net → to_z w128 (of_z w128 net) ≡ get_or ns v (pos 0)
read ns marks sum degree v net k h e = whole net (omega (arith, cell_size ns v sum net h e k.summed, k.small)) ∙ e ∙ defaulted ns v net (pos 0) h

pub plain_at : (d : NormalConstraint) (ns : List ℤ) (marks : List ℕ) (sum degree v : ℕ) (net : ℤ) → constraint_of ns degree ≡ d → IsKept ns marks sum degree → v < length ns → net ≡ get_or ns v net
    → coefficient d v false ≡ at_least_zero (to_z w128 (of_z w128 net))
plain_at d ns marks sum degree v net is k h e = ap (λ (x : NormalConstraint). coefficient x v false) (sym is) ∙ (coefficients_at ns degree v).0 ∙ sym (ap at_least_zero (read ns marks sum degree v net k h e))

pub negated_at : (d : NormalConstraint) (ns : List ℤ) (marks : List ℕ) (sum degree v : ℕ) (net : ℤ) → constraint_of ns degree ≡ d → IsKept ns marks sum degree → v < length ns → net ≡ get_or ns v net
    → coefficient d v true ≡ at_least_zero (neg_ℤ (to_z w128 (of_z w128 net)))
negated_at d ns marks sum degree v net is k h e = ap (λ (x : NormalConstraint). coefficient x v true) (sym is) ∙ (coefficients_at ns degree v).1 ∙ sym (ap (λ (z : ℤ). at_least_zero (neg_ℤ z)) (read ns marks sum degree v net k h e))

-- a variable beyond all cells has no coefficient
pub none_at : (d : NormalConstraint) (ns : List ℤ) (degree v : ℕ) (s : Bool) → constraint_of ns degree ≡ d → length ns ≤ v → coefficient d v s ≡ 0
none_at d ns degree v false is h = ap (λ (x : NormalConstraint). coefficient x v false) (sym is) ∙ (coefficients_at ns degree v).0 ∙ ap at_least_zero (beyond_all ns v h)
none_at d ns degree v true is h = ap (λ (x : NormalConstraint). coefficient x v true) (sym is) ∙ (coefficients_at ns degree v).1 ∙ ap (λ (z : ℤ). at_least_zero (neg_ℤ z)) (beyond_all ns v h)

-- a variable with a coefficient is marked
pub marked_at : (d : NormalConstraint) (ns : List ℤ) (marks : List ℕ) (degree : ℕ) → constraint_of ns degree ≡ d → IsMarked marks ns → (v : ℕ) (s : Bool) → 0 < coefficient d v s → Contains marks v
marked_at d ns marks degree is m v false h = m.covers v (omega (arith, h, ap (λ (x : NormalConstraint). coefficient x v false) is, (coefficients_at ns degree v).2))
marked_at d ns marks degree is m v true h = m.covers v (omega (arith, h, ap (λ (x : NormalConstraint). coefficient x v true) is, (coefficients_at ns degree v).2))

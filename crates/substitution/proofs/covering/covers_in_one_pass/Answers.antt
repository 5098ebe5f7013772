-- The excess so far, and the terms of lower variables are passed.
use Rattle.std.proofs.Common.{◌↔◌, ◌+◌, ◌≤◌, false, IsTrue, refl, arith}
use Rattle.std.proofs.lemmas.Bool.{false≢true}
use Rattle.normal_form.specs.Normal.{NormalConstraint, Rises}
use Rattle.substitution.specs.Covering.{Covers}
use Rattle.substitution.proofs.Excess.{term_excess, excess_of_terms}
use Rattle.substitution.proofs.Pass.{excess_total, excess_first, excess_all, pass_more}
use Rattle.substitution.proofs.covering.covers_in_one_pass.Goals as goal

pub overflow_add-excess : goal.overflow_add-excess
overflow_add-excess c =
    let es = c.args.constraint.now.terms in
    let i = c.loop-index.index in
    let normal = c.len-index-end.ensures.normal in
    let turn = pass_more es c.args.other.now i c.loop-index.place c.first_from-place.result c.loop-index.excess c.term-term.result normal.rises (omega arith) c.term-term.ensures.value c.loop-index.invariant.0 c.loop-index.invariant.3 c.coefficient_from.result c.saturating_sub-excess.result c.first_from-place.ensures.passed c.coefficient_from.ensures c.saturating_sub-excess.ensures in
    omega (arith, turn.0, excess_total (i + 1) es c.args.other.now, normal.fits.sum)

pub loop-index-preserved : goal.loop-index-preserved
loop-index-preserved c =
    let es = c.args.constraint.now.terms in
    let i = c.loop-index.index in
    let normal = c.len-index-end.ensures.normal in
    let turn = pass_more es c.args.other.now i c.loop-index.place c.first_from-place.result c.loop-index.excess c.term-term.result normal.rises (omega arith) c.term-term.ensures.value c.loop-index.invariant.0 c.loop-index.invariant.3 c.coefficient_from.result c.saturating_sub-excess.result c.first_from-place.ensures.passed c.coefficient_from.ensures c.saturating_sub-excess.ensures in
    (turn.0, omega arith, c.first_from-place.ensures.within, turn.1)

-- a covered constraint has no more excess than the degrees allow
excess_allowed : (e n : NormalConstraint) → Rises 0 e.terms → Covers e n → n.degree + term_excess e.terms n ≤ e.degree
excess_allowed e n r h = omega (arith, h, excess_of_terms e n r)

never : (K : Type 0) → (K → ⊥) → IsTrue false ↔ K
never K h = (λ t. absurd (false≢true t), λ k. absurd (h k))

pub returns : goal.returns
returns c =
    let e = c.args.constraint.now in
    let n = c.args.other.now in
    let all = excess_all c.loop-index.index e.terms n (omega arith) in
    let same = excess_of_terms e n c.len-index-end.ensures.normal.rises in
    (λ t. omega (arith, all, same, c.loop-index.invariant.0, c.loop-index.invariant.1), λ h. refl)

pub returns-then-excess-allowed : goal.returns-then-excess-allowed
returns-then-excess-allowed c =
    let e = c.args.constraint.now in
    let n = c.args.other.now in
    let i = c.loop-index.index in
    let normal = c.len-index-end.ensures.normal in
    let turn = pass_more e.terms n i c.loop-index.place c.first_from-place.result c.loop-index.excess c.term-term.result normal.rises (omega arith) c.term-term.ensures.value c.loop-index.invariant.0 c.loop-index.invariant.3 c.coefficient_from.result c.saturating_sub-excess.result c.first_from-place.ensures.passed c.coefficient_from.ensures c.saturating_sub-excess.ensures in
    never (Covers e n) (λ h. omega (arith, turn.0, excess_first (i + 1) e.terms n, excess_allowed e n normal.rises h))

use Rattle.std.proofs.Common.{◌<◌, refl, sym, ap, subst, ◌∙◌, arith}
use Rattle.std.proofs.lemmas.Bool.{false≢true}
use Rattle.std.specs.FinMap as map
use Rattle.normal_form.specs.Normal.{NormalConstraint}
use Rattle.database.specs.Covered.{IsCoveredAt}
use Rattle.database.specs.Database.{Constraints}
use Rattle.database.proofs.CoveredAt.{covered_at_any, uncovered_end, one_more_asked, one_less_unasked, some_unasked}
use Rattle.database.proofs.shown.is_covered_at_literals.Goals as goal

pub returns-then-branch-clause-covered : goal.returns-then-branch-clause-covered
returns-then-branch-clause-covered g c =
    let live = ap (λ (d : Constraints). map.values d.live) c.loop-unasked.invariant.0 in
    let n : NormalConstraint = c.args.constraint.now in
    (λ _. covered_at_any (map.values c.args.database.now.live) c.literal.result n (subst (λ ns. IsCoveredAt ns c.literal.result n) live (c.in_ok-is_covered_at.ensures.covered.0 c.if-branch.true)), λ _. refl)

pub overflow_sub-unasked : goal.overflow_sub-unasked
overflow_sub-unasked g c =
    let kept = c.loop-unasked.invariant in
    let ts = c.args.constraint.now.terms in
    let left : 0 < c.loop-unasked.place = some_unasked ts c.loop-unasked.place (omega (arith, kept.2, c.loop-unasked-test.true, c.degree.ensures.value, c.requires.degree)) in
    let less = one_less_unasked ts c.loop-unasked.place c.term-term.result left kept.1 c.term-term.ensures.value in
    omega (arith, less, kept.2)

pub loop-unasked-preserved : goal.loop-unasked-preserved
loop-unasked-preserved g c =
    let kept = c.loop-unasked.invariant in
    let n : NormalConstraint = c.args.constraint.now in
    let place = c.loop-unasked.place in
    let t = c.term-term.result in
    let left : 0 < place = some_unasked n.terms place (omega (arith, kept.2, c.loop-unasked-test.true, c.degree.ensures.value, c.requires.degree)) in
    let less = one_less_unasked n.terms place t left kept.1 c.term-term.ensures.value in
    let live = ap (λ (d : Constraints). map.values d.live) kept.0 in (
      c.in_ok-is_covered_at.ensures.same ∙ kept.0,
      omega (arith, kept.1),
      omega (arith, less, kept.2),
      one_more_asked c.args.database.now.live n place t c.literal.result left kept.1 c.term-term.ensures.value c.literal.ensures kept.3
          (λ h. false≢true (sym c.if-branch.false ∙ c.in_ok-is_covered_at.ensures.covered.1 (subst (λ ns. IsCoveredAt ns c.literal.result n) (sym live) h))),
    )

pub returns-clause-covered : goal.returns-clause-covered
returns-clause-covered g c =
    let kept = c.loop-unasked.invariant in
    let n : NormalConstraint = c.args.constraint.now in (
      λ h. absurd (false≢true h),
      λ a. absurd (uncovered_end c.args.database.now.live n c.loop-unasked.place kept.3 (omega (arith, kept.2, c.loop-unasked-test.false, c.degree.ensures.value)) c.requires.consistent a),
    )

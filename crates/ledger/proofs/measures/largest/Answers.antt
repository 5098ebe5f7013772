-- One coefficient more.
use Rattle.std.proofs.Common.{◌<◌, List, inl, inr, length, ap, arith}
use Rattle.std.proofs.lemmas.Bool.{cases_eq}
use Rattle.normal_form.specs.declared.term.NormalTerm.{NormalTerm}
use Rattle.ledger.proofs.Coefficients.{below_total, none_above, coefficient_there}
use Rattle.ledger.proofs.measures.largest.Goals as goal

pub loop-place-preserved : goal.loop-place-preserved
loop-place-preserved c =
    let ts : List NormalTerm = c.args.constraint.now.terms in
    let low : c.loop-place.place < length ts = omega (arith, c.loop-place-test.true, c.len-place-end.ensures.value) in
    record {
      each = λ k d h. elim (cases_eq k c.loop-place.place) [
        | inl e ↦ omega (arith, coefficient_there ts k c.loop-place.place d c.term.result e low c.term.ensures.value, c.max-largest.ensures)
        | inr n ↦ omega (arith, c.loop-place.invariant.each k d (omega (arith, h, n)), c.max-largest.ensures)
      ];
      limit = omega (arith, below_total ts c.loop-place.place c.term.result low, ap (λ (t : NormalTerm). t.coef) c.term.ensures.value, c.len-place-end.ensures.normal.fits.sum, c.max-largest.ensures, c.loop-place.invariant.limit);
    }

pub returns-clause-each : goal.returns-clause-each
returns-clause-each c l =
    none_above 0 c.args.constraint.now.terms c.loop-place.largest (l.var.0) l.negated c.len-place-end.ensures.normal.rises
    (λ k d h. c.loop-place.invariant.each k d (omega (arith, h, c.loop-place-test.false, c.len-place-end.ensures.value)))

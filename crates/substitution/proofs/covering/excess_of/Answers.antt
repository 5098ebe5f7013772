-- One term after another is looked up.
use Rattle.std.proofs.Common.{◌+◌, ◌∙◌, sym, arith}
use Rattle.substitution.proofs.BothExcesses.{excess_step}
use Rattle.substitution.proofs.Excess.{excess_of_terms}
use Rattle.substitution.proofs.Pass.{excess_all, excess_total}
use Rattle.substitution.proofs.covering.excess_of.Goals as goal

pub loop-index-preserved : goal.loop-index-preserved
loop-index-preserved c =
    excess_step c.args.constraint.now.terms c.args.other.now c.loop-index.index c.term-term.result c.loop-index.excess c.coefficient_of.result c.saturating_sub-excess.result (omega arith) c.term-term.ensures.value c.loop-index.invariant
    c.coefficient_of.ensures c.saturating_sub-excess.ensures

pub overflow_add-excess : goal.overflow_add-excess
overflow_add-excess c =
    omega (arith, loop-index-preserved c, excess_total (c.loop-index.index + 1) c.args.constraint.now.terms c.args.other.now, c.len-index-end.ensures.normal.fits.sum)

pub returns-clause-value : goal.returns-clause-value
returns-clause-value c =
    c.loop-index.invariant ∙ excess_all c.loop-index.index c.args.constraint.now.terms c.args.other.now (omega arith)
    ∙ sym (excess_of_terms c.args.constraint.now c.args.other.now c.len-index-end.ensures.normal.rises)

pub returns-clause-small : goal.returns-clause-small
returns-clause-small c =
    omega (arith, c.loop-index.invariant, excess_total c.loop-index.index c.args.constraint.now.terms c.args.other.now, c.len-index-end.ensures.normal.fits.sum)

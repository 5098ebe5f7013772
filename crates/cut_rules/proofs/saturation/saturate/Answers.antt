-- The capped terms with the degree are the saturation, which is within the limits.
use Rattle.std.proofs.Common.{min, arith}
use Rattle.cut_rules.proofs.Meaning.{saturation_law}
use Rattle.cut_rules.proofs.OneOperand.{saturation_from, fits_from}
use Rattle.cut_rules.proofs.saturation.saturate.Goals as goal

pub finish_fitting-requires : goal.finish_fitting-requires
finish_fitting-requires c = fits_from (λ _ x. min x c.degree-degree.result) (λ _ x. omega arith) c.args.constraint.now c.in_ok-terms.terms c.degree-degree.result c.degree-degree.ensures.normal.fits c.in_ok-terms.ensures (omega (arith, c.degree-degree.ensures.value))

pub returns-clause-saturation : goal.returns-clause-saturation
returns-clause-saturation c = saturation_from c.args.constraint.now c.finish_fitting.result c.in_ok-terms.terms c.degree-degree.result c.degree-degree.ensures.normal.rises c.in_ok-terms.ensures c.degree-degree.ensures.value c.finish_fitting.ensures.terms c.finish_fitting.ensures.degree

pub returns-clause-keeps : goal.returns-clause-keeps
returns-clause-keeps c = saturation_law c.args.constraint.now c.finish_fitting.result (returns-clause-saturation c)

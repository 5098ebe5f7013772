-- The terms that stay, with what went off the degree, are the weakening, which is within the limits.
use Rattle.std.proofs.Common.{◌≡◌, ◌-◌, arith}
use Rattle.cut_rules.specs.Steps.{less}
use Rattle.cut_rules.proofs.Meaning.{weakening_law}
use Rattle.cut_rules.proofs.OneOperand.{weakening_from, fits_from, less_down}
use Rattle.cut_rules.proofs.weakening.weaken.Goals as goal

degree_is : (c : goal.After-finish_fitting) → c.saturating_sub-degree.result ≡ c.args.constraint.now.degree - c.in_ok-weakened.weakened.gone
degree_is c = omega (arith, c.saturating_sub-degree.ensures, c.degree.ensures.value)

pub finish_fitting-requires : goal.finish_fitting-requires
finish_fitting-requires c = fits_from (less (c.args.var.0)) (less_down (c.args.var.0)) c.args.constraint.now c.in_ok-weakened.weakened.terms c.saturating_sub-degree.result c.degree.ensures.normal.fits c.in_ok-weakened.ensures.terms (omega (arith, c.saturating_sub-degree.ensures, c.degree.ensures.value))

pub returns-clause-weakening : goal.returns-clause-weakening
returns-clause-weakening c = weakening_from (c.args.var.0) c.args.constraint.now c.finish_fitting.result c.in_ok-weakened.weakened.terms c.saturating_sub-degree.result c.in_ok-weakened.weakened.gone c.degree.ensures.normal.rises c.in_ok-weakened.ensures.terms c.in_ok-weakened.ensures.gone (degree_is c) c.finish_fitting.ensures.terms c.finish_fitting.ensures.degree

pub returns-clause-keeps : goal.returns-clause-keeps
returns-clause-keeps c = weakening_law (c.args.var.0) c.args.constraint.now c.finish_fitting.result (returns-clause-weakening c)

-- The divided terms with the divided degree are the quotient, which is within the limits.
use Rattle.std.proofs.Common.{◌≡◌, ℕ, ◌≤◌, arith, ap, ◌∙◌}
use Rattle.std.specs.Int.{div_ceil}
use Rattle.cut_rules.specs.Steps.{parts}
use Rattle.cut_rules.proofs.Meaning.{quotient_law}
use Rattle.cut_rules.proofs.OneOperand.{quotient_from, parts_down, fits_from}
use Rattle.cut_rules.proofs.division.quotient.Goals as goal

degree_is : (c : goal.After-finish_fitting) → c.divided_up-degree.result ≡ div_ceil c.args.constraint.now.degree c.args.divisor
degree_is c = c.divided_up-degree.ensures ∙ ap (λ (x : ℕ). div_ceil x c.args.divisor) c.degree.ensures.value

low : (divisor degree before result : ℕ) → result ≡ div_ceil before divisor → div_ceil before divisor ≤ before → before ≡ degree → result ≤ degree
low divisor degree before result e h k = omega (arith, e, h, k)

pub finish_fitting-requires : goal.finish_fitting-requires
finish_fitting-requires c = fits_from (parts c.args.divisor) (λ _ x. parts_down c.args.divisor c.requires x) c.args.constraint.now c.in_ok-terms.terms c.divided_up-degree.result c.degree.ensures.normal.fits c.in_ok-terms.ensures (low c.args.divisor c.args.constraint.now.degree c.degree.result c.divided_up-degree.result c.divided_up-degree.ensures (parts_down c.args.divisor c.requires c.degree.result) c.degree.ensures.value)

pub returns-clause-quotient : goal.returns-clause-quotient
returns-clause-quotient c = quotient_from c.args.divisor c.args.constraint.now c.finish_fitting.result c.in_ok-terms.terms c.divided_up-degree.result c.requires c.degree.ensures.normal.rises c.in_ok-terms.ensures (degree_is c) c.finish_fitting.ensures.terms c.finish_fitting.ensures.degree

pub returns-clause-keeps : goal.returns-clause-keeps
returns-clause-keeps c = quotient_law c.args.divisor c.args.constraint.now c.finish_fitting.result (returns-clause-quotient c)

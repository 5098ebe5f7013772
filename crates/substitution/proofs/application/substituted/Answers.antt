-- What is constant is not below 0 and within the coefficient sum, so the right side fits.
use Rattle.std.proofs.Common.{arith, ◌∙◌, subst}
use Rattle.std.proofs.lemmas.Int.{ints}
use Rattle.linear.specs.declared.constraint.Signed.{Signed}
use Rattle.normal_form.specs.NormalOf.{IsTooLarge}
use Rattle.substitution.proofs.Sizes.{constant_not_negative}
use Rattle.substitution.proofs.PuttingIn.{constant_below, substituted_is, never_too_large}
use Rattle.substitution.proofs.application.substituted.Goals as goal

pub overflow_sub-result : goal.overflow_sub-result
overflow_sub-result c =
    let n = c.args.constraint.now in
    omega (arith, ints, c.in_ok-partial.ensures.constant, constant_not_negative c.args.substitution.now n.terms, constant_below c.args.substitution.now n.terms, c.degree.ensures.value, c.degree.ensures.normal.fits.sum, c.degree.ensures.normal.fits.degree)

pub returns-clause-value : goal.returns-clause-value
returns-clause-value c =
    let n = c.args.constraint.now in
    substituted_is n c.args.substitution.now c.from_vec.result _ (c.from_vec.ensures ∙ c.in_ok-partial.ensures.terms)
    (omega (arith, ints, c.in_ok-partial.ensures.constant, constant_not_negative c.args.substitution.now n.terms, constant_below c.args.substitution.now n.terms, c.degree.ensures.value, c.degree.ensures.normal.fits.sum, c.degree.ensures.normal.fits.degree))

pub returns-clause-fits : goal.returns-clause-fits
returns-clause-fits c =
    let n = c.args.constraint.now in
    let is = substituted_is n c.args.substitution.now c.from_vec.result _ (c.from_vec.ensures ∙ c.in_ok-partial.ensures.terms)
    (omega (arith, ints, c.in_ok-partial.ensures.constant, constant_not_negative c.args.substitution.now n.terms, constant_below c.args.substitution.now n.terms, c.degree.ensures.value, c.degree.ensures.normal.fits.sum, c.degree.ensures.normal.fits.degree)) in
    λ h. never_too_large n c.args.substitution.now c.degree.ensures.normal.fits (subst (λ (s : Signed). IsTooLarge s) is h)

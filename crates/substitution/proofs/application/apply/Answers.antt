-- The normal form of the constraint with images put in; it is no larger, so it fits.
use Rattle.std.proofs.Common.{subst}
use Rattle.linear.specs.declared.constraint.Signed.{Signed}
use Rattle.normal_form.specs.NormalOf.{IsNormalOf}
use Rattle.substitution.specs.Under.{IsUnder}
use Rattle.substitution.proofs.Images.{under_meaning}
use Rattle.substitution.proofs.Sizes.{sum_no_larger, degree_no_larger}
use Rattle.substitution.proofs.application.apply.Goals as goal

pub returns-clause-meaning : goal.returns-clause-meaning
returns-clause-meaning c =
    let form : IsUnder c.args.constraint.now c.args.substitution.now c.in_ok-under.under = subst (λ (s : Signed). IsNormalOf s c.in_ok-under.under) c.in_ok-signed.ensures.value c.in_ok-under.ensures.form in
    under_meaning c.args.constraint.now c.in_ok-under.under c.args.substitution.now form

pub returns-clause-sum : goal.returns-clause-sum
returns-clause-sum c =
    let form : IsUnder c.args.constraint.now c.args.substitution.now c.in_ok-under.under = subst (λ (s : Signed). IsNormalOf s c.in_ok-under.under) c.in_ok-signed.ensures.value c.in_ok-under.ensures.form in
    sum_no_larger c.args.constraint.now c.in_ok-under.under c.args.substitution.now form

pub returns-clause-degree : goal.returns-clause-degree
returns-clause-degree c =
    let form : IsUnder c.args.constraint.now c.args.substitution.now c.in_ok-under.under = subst (λ (s : Signed). IsNormalOf s c.in_ok-under.under) c.in_ok-signed.ensures.value c.in_ok-under.ensures.form in
    degree_no_larger c.args.constraint.now c.in_ok-under.under c.args.substitution.now form

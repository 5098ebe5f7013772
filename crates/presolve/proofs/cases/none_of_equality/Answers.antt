-- The one form has x0, the other one ~x0.
use Rattle.std.proofs.Common.{[], inl, inr, true, false, arith}
use Rattle.std.proofs.lemmas.List.Elements.{All-head}
use Rattle.linear.specs.declared.constraint.Signed.{Signed}
use Rattle.normal_form.specs.NormalOf.{signs_changed}
use Rattle.normal_form.proofs.NormalForm.{form, form_is}
use Rattle.presolve.specs.Cases.{just_one_of_two}
use Rattle.presolve.specs.Standing.{IsAbsent}
use Rattle.presolve.proofs.cases.none_of_equality.Goals as goal

turned : Signed
turned = signs_changed just_one_of_two

pub returns-clause-plain : goal.returns-clause-plain
unfolding turned
returns-clause-plain c f = omega (arith, All-head (IsAbsent 0 true) just_one_of_two [] f.opposite (form turned) (inr (form_is turned)), (form_is turned).negated 0)

pub returns-clause-negated : goal.returns-clause-negated
returns-clause-negated c f =
    omega (arith, All-head (IsAbsent 0 false) just_one_of_two [] f.opposite (form just_one_of_two) (inl (form_is just_one_of_two)), (form_is just_one_of_two).plain 0)

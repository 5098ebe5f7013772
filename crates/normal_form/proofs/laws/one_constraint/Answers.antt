-- The coefficients determine a list that rises.
use Rattle.normal_form.proofs.OneList as forms
use Rattle.normal_form.proofs.laws.one_constraint.Goals as goal

pub returns : goal.returns
returns _ n m r q e d = forms.one_constraint n m r q e d

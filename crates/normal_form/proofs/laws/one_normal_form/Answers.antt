-- A form is made by putting in the terms one after another, and the coefficients determine it.
use Rattle.normal_form.proofs.NormalForm.{form, form_is, one_form}
use Rattle.normal_form.proofs.laws.one_normal_form.Goals as goal

pub returns : goal.returns
returns _ c = (form c, form_is c, λ m f. one_form c m (form c) f (form_is c))

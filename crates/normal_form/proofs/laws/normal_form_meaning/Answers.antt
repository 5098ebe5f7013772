-- The form balances the signed terms.
use Rattle.normal_form.proofs.NormalForm.{form_meaning}
use Rattle.normal_form.proofs.laws.normal_form_meaning.Goals as goal

pub returns : goal.returns
returns _ c n e f a = form_meaning c n e f a

-- Each signed constraint has one normal form.
use Rattle.normal_form.proofs.NormalForm.{form, form_is, one_form}
use Rattle.substitution.specs.Under.{substituted}
use Rattle.substitution.proofs.laws.one_under.Goals as goal

pub returns : goal.returns
returns _ n w = (form (substituted n w), form_is (substituted n w), λ q f. one_form (substituted n w) q (form (substituted n w)) f (form_is (substituted n w)))

-- A list that rises has each variable once.
use Rattle.normal_form.proofs.FromBalance.{one_side}
use Rattle.normal_form.proofs.laws.one_sign.Goals as goal

pub returns : goal.returns
returns _ n r v = one_side 0 n.terms r v

-- Both forms balance the signed terms, the second with all signs changed.
use Rattle.normal_form.proofs.SignChanges as opposites
use Rattle.normal_form.proofs.laws.both_meaning.Goals as goal

pub returns : goal.returns
returns _ c n m e f a = opposites.both_meaning c n m e f a

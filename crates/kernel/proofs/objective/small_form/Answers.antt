-- What is small enough fits.
use Rattle.normal_form.proofs.NormalForm.{small_never}
use Rattle.kernel.proofs.objective.small_form.Goals as goal

pub normalize_fitting-requires-clause-fits : goal.normalize_fitting-requires-clause-fits
normalize_fitting-requires-clause-fits c = small_never c.args.constraint.now c.requires.small

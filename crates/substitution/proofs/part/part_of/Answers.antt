-- A part is no larger than the constraint, so it fits.
use Rattle.substitution.proofs.Gathering.{part_fits}
use Rattle.substitution.proofs.part.part_of.Goals as goal

pub finish_fitting-requires : goal.finish_fitting-requires
finish_fitting-requires c = part_fits c.args.constraint.now c.args.variables.now c.in_ok-terms.terms c.degree-degree.result c.degree-degree.ensures.normal.fits c.degree-degree.ensures.value c.in_ok-terms.ensures

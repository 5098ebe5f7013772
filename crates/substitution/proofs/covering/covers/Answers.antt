-- What it covers holds where it does.
use Rattle.substitution.proofs.Covered.{covered_holds}
use Rattle.substitution.proofs.covering.covers.Goals as goal

pub returns-clause-holds : goal.returns-clause-holds
returns-clause-holds c true' a h =
    covered_holds c.args.constraint.now c.args.other.now c.degree.ensures.normal.rises (c.covers_by_terms.ensures.0 true') a h

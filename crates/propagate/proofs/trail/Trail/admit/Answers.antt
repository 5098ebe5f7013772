-- A literal that is listed adds nothing.
use Rattle.std.proofs.Common.{sym, ◌∙◌}
use Rattle.propagate.proofs.WalkEnds.{listed_already}
use Rattle.propagate.proofs.trail.Trail.admit.Goals as goal

pub returns-clause-admitted : goal.returns-clause-admitted
returns-clause-admitted c yes' = listed_already c.args.self.now.0 c.args.literal (sym c.has.ensures ∙ yes')

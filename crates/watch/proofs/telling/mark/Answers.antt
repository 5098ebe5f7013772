-- A literal that is listed adds nothing.
use Rattle.std.proofs.Common.{sym, ◌∙◌}
use Rattle.propagate.proofs.WalkEnds.{listed_already}
use Rattle.watch.proofs.GivenReasons.{opposite_free}
use Rattle.watch.proofs.telling.mark.Goals as goal

pub push-requires-clause-opposite_unset : goal.push-requires-clause-opposite_unset
push-requires-clause-opposite_unset c = opposite_free c.args.marks.now.0 c.args.literal c.requires.consistent

pub returns-else-not-has-clause-same : goal.returns-else-not-has-clause-same
returns-else-not-has-clause-same c = listed_already c.args.marks.now.0 c.args.literal (sym c.has.ensures ∙ c.if-not-has.false)

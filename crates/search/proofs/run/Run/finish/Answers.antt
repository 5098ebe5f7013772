-- Each turn goes on from the one before.
use Rattle.std.proofs.Common.{IfSome, refl, subst}
use Rattle.search.specs.Solving.{BearsOut}
use Rattle.search.proofs.GoingOn.{goes_on_more, goes_on_same}
use Rattle.search.proofs.run.Run.finish.Goals as goal

pub turns-init : goal.turns-init
turns-init g c = (goes_on_same c.args.self.now.log c.args.self.now.log refl, c.requires.decisions, c.requires.within)

pub turns-preserved : goal.turns-preserved
turns-preserved g c = (
  goes_on_more c.args.self.now.log c.turns.self.log c.turn.new.self.log c.turns.invariant.0 c.in_ok-found.ensures.goes_on,
  c.in_ok-found.ensures.decisions,
  c.in_ok-found.ensures.within,
)

pub returns-in-Some-clause-goes_on : goal.returns-in-Some-clause-goes_on
returns-in-Some-clause-goes_on g c = goes_on_more c.args.self.now.log c.turns.self.log c.turn.new.self.log c.turns.invariant.0 c.in_ok-found.ensures.goes_on

pub returns-in-Some-clause-found : goal.returns-in-Some-clause-found
returns-in-Some-clause-found g c = subst (λ o. IfSome o (BearsOut c.args.limit c.turn.new.self.log)) c.in-Some.is c.in_ok-found.ensures.found

-- All that the constraint forces is added.
use Rattle.watch.proofs.Walking.{goes_by_forced}
use Rattle.watch.proofs.walk.look_through.Goals as goal

pub returns-in-Some-clause-goes_on : goal.returns-in-Some-clause-goes_on
returns-in-Some-clause-goes_on c = goes_by_forced c.args.ledger.now c.force.new.self c.args.place c.requires.place c.force.ensures.same c.force.ensures.forced

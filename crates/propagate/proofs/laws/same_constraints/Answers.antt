-- Each list has the constraints of the other.
use Rattle.std.proofs.Common.{[]}
use Rattle.propagate.proofs.KeptChains.{same_conflicts, same_reached}
use Rattle.propagate.proofs.laws.same_constraints.Goals as goal

pub returns-clause-conflict : goal.returns-clause-conflict
returns-clause-conflict c = same_conflicts

pub returns-clause-reached : goal.returns-clause-reached
returns-clause-reached c = same_reached

pub returns-clause-refuted : goal.returns-clause-refuted
returns-clause-refuted c ns ms h = same_conflicts ns ms h []

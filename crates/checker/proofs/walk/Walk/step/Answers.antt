use Rattle.std.proofs.Common.{refl}
use Rattle.checker.proofs.walk.Walk.step.Goals as goal

pub returns-in-Ok-clause-accepts : goal.returns-in-Ok-clause-accepts
returns-in-Ok-clause-accepts g c = record { legal = c.in-Ok.ensures.ok; concluded = refl }

use Rattle.std.proofs.Common.{Some, ap}
use Rattle.kernel.specs.Held.{Held}
use Rattle.checker.proofs.walk.Walk.conclude.Goals as goal

pub returns-in-Ok-clause-accepts : goal.returns-in-Ok-clause-accepts
returns-in-Ok-clause-accepts g c = record {
  best = c.in-Ok.accepted.best;
  justified = c.in-Ok.ensures.justified;
  state = ap (λ (k : Held). k.state) c.conclude.ensures.same;
  concluded = ap (λ x. Some (record { conclusion = x; best = c.in-Ok.accepted.best })) c.in-Ok.ensures.conclusion;
}

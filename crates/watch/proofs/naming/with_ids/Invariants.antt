-- What is named so far are the steps before this one.
use Rattle.std.proofs.Common.{◌≡◌, map, take}
use Rattle.watch.specs.Steps.{step_named}
use Rattle.watch.proofs.naming.with_ids.Given as goal

abbrev pub invariant-loop-step : goal.invariant-loop-step
invariant-loop-step l = l.forced.items ≡ map (step_named l.ids) (take l.step-index l.steps)

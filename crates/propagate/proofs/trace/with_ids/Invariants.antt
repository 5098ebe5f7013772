-- What is named so far are the steps before this one.
use Rattle.std.proofs.Common.{◌≡◌, map, take}
use Rattle.propagate.specs.TraceByPlaces.{named}
use Rattle.propagate.proofs.trace.with_ids.Given as goal

abbrev pub invariant-loop-step : goal.invariant-loop-step
invariant-loop-step l = l.forced.items ≡ map (named l.ids) (take l.step-index l.steps)

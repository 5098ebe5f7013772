-- What stands at the places so far has come.
use Rattle.watch.proofs.MadeAnew.{IsFilledTo}
use Rattle.watch.proofs.watch_propagator.WatchPropagator.fill_from.Given as goal

abbrev pub invariant-loop-place : goal.invariant-loop-place
invariant-loop-place l = IsFilledTo l.other-inside.closure l.other-inside.ids.items l.self l.place

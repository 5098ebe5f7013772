-- What was passed over says nothing.
use Rattle.std.proofs.Common.{◌≡◌, drop}
use Rattle.ledger.specs.Entered.{all_of}
use Rattle.watch.specs.Lent.{live_places}
use Rattle.watch.proofs.lending.first_live.Given as goal

abbrev pub invariant-loop-index : goal.invariant-loop-index
invariant-loop-index l = live_places l.ledger.slots (drop l.from (all_of l.entries)) ≡ live_places l.ledger.slots (drop l.index (all_of l.entries))

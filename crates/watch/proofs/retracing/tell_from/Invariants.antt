-- The literals so far are told.
use Rattle.std.proofs.Common.{◌≡◌, ◌++◌, map, take}
use Rattle.watch.proofs.retracing.tell_from.Given as goal

abbrev pub invariant-loop-index : goal.invariant-loop-index
invariant-loop-index l = take l.first l.ledger.assigned ++ map (λ p. p.0) l.told.items ≡ take l.index l.ledger.assigned

-- Each turn takes one away.
use Rattle.std.proofs.Common.{◌≡◌, length}
use Rattle.ledger.proofs.queue.Queue.clear.Given as goal

abbrev pub invariant-loop : goal.invariant-loop
invariant-loop l = l.self.1 ≡ l.initial.self.1

abbrev pub decreases-loop : goal.decreases-loop
decreases-loop l = length l.self.0

-- The entries so far are handled.
use Rattle.std.proofs.Common.{◌≡◌, ℕ, ◌-◌, [], Contains, length, get_or}
use Rattle.ledger.specs.Falls.{IsFalling}
use Rattle.linear.specs.Literal.{code}
use Rattle.ledger.specs.Watched.{AreSameKinds}
use Rattle.ledger.proofs.watchers.Watchers.fall.Given as goal

abbrev pub decreases-loop-index : goal.decreases-loop-index
decreases-loop-index l = length (get_or l.self.rows (code l.fallen) []) - l.index

abbrev pub invariant-loop-index : goal.invariant-loop-index
invariant-loop-index l = record {
  falling : IsFalling l.slots l.trail.0 l.trail.1 l.fallen l.self l.queue.0 l.index;
  kinds : AreSameKinds l.initial.self.pairs l.self.pairs;
  count : l.queue.1 ≡ l.initial.queue.1;
  kept : (k : ℕ) → Contains l.initial.queue.0 k → Contains l.queue.0 k;
}

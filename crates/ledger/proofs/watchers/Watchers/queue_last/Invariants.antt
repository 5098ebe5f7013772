-- The places so far are queued, where they have to be.
use Rattle.std.proofs.Common.{◌≡◌, ◌⊎◌, ℕ, ◌<◌, Contains, None, Some, get_or}
use Rattle.linear.specs.declared.term.Lit.{Lit}
use Rattle.ledger.specs.declared.pair.Pair.{Pair}
use Rattle.ledger.specs.Falls.{IsBeside}
use Rattle.ledger.specs.Watched.{IsOpen}
use Rattle.ledger.proofs.watchers.Watchers.queue_last.Given as goal

abbrev pub invariant-loop-place : goal.invariant-loop-place
invariant-loop-place l = record {
  queued : (i : ℕ) (p : Pair) → i < l.place-index → get_or l.self.pairs (get_or l.place-items i 0) None ≡ Some p → (other : Lit) → IsBeside (Some p) l.literal other → IsOpen l.trail.0 other ⊎ Contains l.queue.0 (get_or l.place-items i 0);
  count : l.queue.1 ≡ l.fn.queue.1;
  kept : (k : ℕ) → Contains l.fn.queue.0 k → Contains l.queue.0 k;
}

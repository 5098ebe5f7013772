-- The places so far wait.
use Rattle.std.proofs.Common.{◌≡◌, ℕ, ◌<◌, ◌≤◌, Contains}
use Rattle.watch.proofs.following.queue_from.Given as goal

abbrev pub invariant-loop-place : goal.invariant-loop-place
invariant-loop-place l = record {
  count : l.queue.1 ≡ l.initial.queue.1;
  queued : (k : ℕ) → l.first ≤ k → k < l.place → Contains l.queue.0 k;
}

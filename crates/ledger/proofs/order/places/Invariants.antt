-- The first places stand in order.
use Rattle.std.proofs.Common.{◌≡◌, ℕ, ◌<◌, ◌≤◌, length, get_or, vec_capacity}
use Rattle.ledger.proofs.order.places.Given as goal

abbrev pub invariant-loop-place : goal.invariant-loop-place
invariant-loop-place l = record {
  count : length l.order.items ≡ l.place;
  each : (k : ℕ) → k < l.place → get_or l.order.items k 0 ≡ k;
  room : l.count ≤ vec_capacity l.order;
}

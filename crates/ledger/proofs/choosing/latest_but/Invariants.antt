-- It stays open longest of the terms so far.
use Rattle.std.proofs.Common.{◌≡◌, ◌<◌, ℕ, length}
use Rattle.ledger.specs.Watched.{OutlastsTerm}
use Rattle.ledger.proofs.choosing.latest_but.Given as goal

abbrev pub invariant-loop-index : goal.invariant-loop-index
invariant-loop-index l = record {
  there : l.latest < length l.constraint.terms;
  apart : l.latest ≡ l.excluded → ⊥;
  latest : (k : ℕ) → k < l.index → (k ≡ l.excluded → ⊥) → OutlastsTerm l.trail.0 l.constraint.terms l.latest k;
}

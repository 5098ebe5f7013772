use Rattle.std.proofs.Common.{◌≡◌, ◌<◌, ℕ, get_or, length, take}
use Rattle.presolve.specs.Weights.{greatest}
use Rattle.presolve.proofs.weights.weights_of.Given as goal

-- the keys so far are weighed
abbrev pub invariant-loop-key : goal.invariant-loop-key
invariant-loop-key l = (length l.table.items ≡ l.count) × ((v : ℕ) → v < l.count → get_or l.table.items v 0 ≡ greatest (take l.key-index l.keys) v)

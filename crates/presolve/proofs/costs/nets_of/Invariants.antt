use Rattle.std.proofs.Common.{◌≡◌, ◌<◌, ℕ, get_or, length, take}
use Rattle.std.specs.Prelude.{pos}
use Rattle.normal_form.specs.NormalOf.{net}
use Rattle.presolve.proofs.costs.nets_of.Given as goal

-- the net coefficients of the terms so far
abbrev pub invariant-loop-term : goal.invariant-loop-term
invariant-loop-term l = (length l.nets.items ≡ l.count) × ((v : ℕ) → v < l.count → get_or l.nets.items v (pos 0) ≡ net (take l.term-index l.objective) v)

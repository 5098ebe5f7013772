use Rattle.std.proofs.Common.{ℕ, ◌<◌}
use Rattle.presolve.specs.Pairs.{IsPartner}
use Rattle.presolve.proofs.swapping.Symmetries.partner.Given as goal

-- none so far
abbrev pub invariant-loop-number : goal.invariant-loop-number
invariant-loop-number l = (z : ℕ) → z < l.number → IsPartner l.self.problem.now l.taken l.left (l.x.0) z → ⊥

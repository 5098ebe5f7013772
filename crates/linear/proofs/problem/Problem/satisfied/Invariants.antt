use Rattle.std.proofs.Common.{ℕ, ◌<◌, get_or}
use Rattle.linear.specs.declared.constraint.Signed.{Signed}
use Rattle.linear.specs.Sum.{Meets}
use Rattle.linear.specs.Valuation.{valuation_of}
use Rattle.linear.proofs.problem.Problem.satisfied.Given as goal

-- the constraints so far are met
abbrev pub invariant-loop-place : goal.invariant-loop-place
invariant-loop-place l = (k : ℕ) (d : Signed) → k < l.place → Meets (valuation_of l.assignment) (get_or l.self.constraints k d)

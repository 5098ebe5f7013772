use Rattle.std.proofs.Common.{IfSome, take}
use Rattle.proof_rules.specs.Claim.{IsSolution}
use Rattle.proof_rules.specs.Justified.{IsBest}
use Rattle.solutions.proofs.log.SolutionLog.best.Given as goal

-- the best so far
abbrev pub invariant-loop-packed : goal.invariant-loop-packed
invariant-loop-packed l = IsBest l.problem (take l.packed-index l.self.logged) l.best × IfSome l.best (IsSolution l.problem)

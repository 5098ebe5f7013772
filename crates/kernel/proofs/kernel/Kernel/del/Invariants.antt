use Rattle.std.proofs.Common.{◌≡◌, take}
use Rattle.proof_rules.specs.Legal.{LegalDel}
use Rattle.kernel.proofs.kernel.Kernel.del.Given as goal

-- the ids so far are deleted
abbrev pub invariant-loop-number : goal.invariant-loop-number
invariant-loop-number g l =
    (l.self.problem ≡ l.fn.self.problem) × LegalDel l.fn.self.state (take l.number-index l.numbers) l.self.state

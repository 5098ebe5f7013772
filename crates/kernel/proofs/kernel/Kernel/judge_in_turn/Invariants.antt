use Rattle.std.proofs.Common.{take}
use Rattle.proof_rules.specs.Legal.{LegalDel}
use Rattle.proof_rules.specs.State.{State}
use Rattle.kernel.specs.Deletion.{IsWithout}
use Rattle.kernel.proofs.kernel.Kernel.judge_in_turn.Given as goal

-- the ids so far are to be deleted, and are those that are gone
abbrev pub invariant-loop-number : goal.invariant-loop-number
invariant-loop-number g l =
    (t : State) × LegalDel l.self.state (take l.number-index l.numbers) t × IsWithout l.gone l.self.state t

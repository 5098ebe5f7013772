use Rattle.proof_rules.specs.State.{constraint_of}
use Rattle.row_sums.specs.Lines.{LeavesItsStack}
use Rattle.cuts.proofs.cliques.add_member.Given as goal

-- the line so far writes what stands on its stack
abbrev pub invariant-loop-member : goal.invariant-loop-member
invariant-loop-member g l = LeavesItsStack (constraint_of l.kernel.state) l.line

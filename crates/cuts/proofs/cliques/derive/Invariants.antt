use Rattle.proof_rules.specs.State.{constraint_of}
use Rattle.row_sums.specs.Lines.{LeavesItsStack}
use Rattle.cuts.proofs.cliques.derive.Given as goal

-- the line so far writes what stands on its stack
abbrev pub invariant-loop-place : goal.invariant-loop-place
invariant-loop-place g l = LeavesItsStack (constraint_of l.kernel.state) l.line

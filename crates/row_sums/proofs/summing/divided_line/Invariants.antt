use Rattle.proof_rules.specs.Running.{LeavesStack}
use Rattle.proof_rules.specs.State.{constraint_of}
use Rattle.row_sums.proofs.summing.divided_line.Given as goal

-- the line so far writes what stands on its stack
abbrev pub invariant-loop-multiplier : goal.invariant-loop-multiplier
invariant-loop-multiplier g l = LeavesStack (constraint_of l.kernel.state) l.line.items.items l.line.stack

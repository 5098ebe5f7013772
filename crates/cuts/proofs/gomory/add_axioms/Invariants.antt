use Rattle.proof_rules.specs.Expression.{Given}
use Rattle.row_sums.specs.Lines.{LeavesItsStack}
use Rattle.cuts.proofs.gomory.add_axioms.Given as goal

-- the line so far writes what stands on its stack
abbrev pub invariant-loop-axiom : goal.invariant-loop-axiom
invariant-loop-axiom l = (given : Given) → LeavesItsStack given l.initial.line → LeavesItsStack given l.line

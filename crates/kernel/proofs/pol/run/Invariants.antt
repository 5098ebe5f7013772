use Rattle.std.proofs.Common.{[], take}
use Rattle.proof_rules.specs.Running.{LeavesStack}
use Rattle.proof_rules.specs.Running.{Runs}
use Rattle.database.specs.Database.{found}
use Rattle.kernel.proofs.pol.run.Given as goal

-- the items so far write what stands on the stack, and run to it
abbrev pub invariant-loop-item : goal.invariant-loop-item
invariant-loop-item g l = record {
  written : LeavesStack (found l.database) (take l.item-index l.items) l.stack;
  runs : Runs (found l.database) (take l.item-index l.items) [] l.stack;
}

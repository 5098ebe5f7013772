use Rattle.std.proofs.Common.{◌≡◌, length, take}
use Rattle.solutions.specs.Table.{IsTableOf}
use Rattle.solutions.proofs.value_table.table_of.Given as goal

-- the values that the literals so far give
abbrev pub invariant-loop-literal : goal.invariant-loop-literal
invariant-loop-literal l = (length l.table.items ≡ l.count) × IsTableOf (take l.literal-index l.assigned) l.table.items

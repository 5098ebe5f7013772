use Rattle.std.proofs.Common.{◌≡◌, Some, map, take}
use Rattle.solutions.proofs.value_table.all_values.Given as goal

-- the values so far
abbrev pub invariant-loop-value : goal.invariant-loop-value
invariant-loop-value l = map Some l.values.items ≡ take l.value-index l.table

-- Only empty lists come to it.
use Rattle.std.proofs.Common.{◌≡◌, ◌≤◌, ◌⊎◌, length}
use Rattle.occurrences.proofs.Rows.{rows_of, IsWider}
use Rattle.occurrences.proofs.table.Table.widen.Given as goal

abbrev pub invariant-loop : goal.invariant-loop
invariant-loop g l = record {
  count : length l.self-inside.rows.items ≡ l.counter;
  wider : IsWider l.fn.self (rows_of l.self-inside.rows.items);
  most : (length (rows_of l.self-inside.rows.items) ≡ length l.fn.self) ⊎ (length (rows_of l.self-inside.rows.items) ≤ l.bound);
}

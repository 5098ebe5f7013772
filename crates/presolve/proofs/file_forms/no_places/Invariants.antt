use Rattle.std.proofs.Common.{◌≡◌, [], All, length}
use Rattle.presolve.proofs.file_forms.no_places.Given as goal

abbrev pub invariant-loop : goal.invariant-loop
invariant-loop l = (length l.table.items ≡ l.counter) × All (λ places. places.items ≡ []) l.table.items

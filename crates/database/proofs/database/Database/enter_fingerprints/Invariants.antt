-- The constraints and the next id stay.
use Rattle.std.proofs.Common.{◌≡◌}
use Rattle.database.proofs.database.Database.enter_fingerprints.Given as goal

abbrev pub invariant-loop-id : goal.invariant-loop-id
invariant-loop-id g l = (l.self-inside.constraints ≡ l.initial.self-inside.constraints) × (l.self-inside.next_id ≡ l.initial.self-inside.next_id)

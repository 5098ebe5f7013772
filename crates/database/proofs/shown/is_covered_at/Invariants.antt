-- Those that have the literal and cover are still to be asked.
use Rattle.std.specs.FinSet as set
use Rattle.database.proofs.CoveredAt.{IsAsking}
use Rattle.database.proofs.shown.is_covered_at.Given as goal

abbrev pub decreases-loop-id : goal.decreases-loop-id
decreases-loop-id g l = set.len l.ids

abbrev pub invariant-loop-id : goal.invariant-loop-id
invariant-loop-id g l = IsAsking l.fn.database.live l.fn.literal l.constraint l.ids

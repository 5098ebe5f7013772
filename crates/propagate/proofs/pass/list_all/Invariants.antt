-- The terms before this one are looked at.
use Rattle.std.proofs.Common.{◌≡◌}
use Rattle.propagate.proofs.Visits.{Visiting}
use Rattle.propagate.proofs.pass.list_all.Given as goal

abbrev pub invariant-loop-index : goal.invariant-loop-index
invariant-loop-index l =
    (l.trail.1 ≡ l.fn.trail.1) × Visiting l.constraint l.place l.slack l.fn.trail.0 l.fn.steps.items l.index l.trail.0 l.steps.items

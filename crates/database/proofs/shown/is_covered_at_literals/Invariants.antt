-- Nothing has changed, no constraint that covers has one of the literals that were asked, and what the others are worth is known.
use Rattle.std.proofs.Common.{◌≡◌, ◌≤◌, length, take}
use Rattle.normal_form.specs.Normal.{total}
use Rattle.database.proofs.CoveredAt.{IsUncoveredFrom}
use Rattle.database.proofs.shown.is_covered_at_literals.Given as goal

abbrev pub decreases-loop-unasked : goal.decreases-loop-unasked
decreases-loop-unasked g l = l.place

abbrev pub invariant-loop-unasked : goal.invariant-loop-unasked
invariant-loop-unasked g l =
    (l.database ≡ l.fn.database)
    × (l.place ≤ length l.constraint.terms)
    × (l.unasked ≡ total (take l.place l.constraint.terms))
    × IsUncoveredFrom l.fn.database.live l.constraint l.place

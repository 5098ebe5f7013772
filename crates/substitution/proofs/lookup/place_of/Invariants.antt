-- The terms before the lower place have lower variables, and those from the higher one on have not.
use Rattle.std.proofs.Common.{◌≡◌, ◌-◌, ◌≤◌, Bool, drop, length}
use Rattle.normal_form.specs.Normal.{Rises, only, sum_over}
use Rattle.substitution.proofs.lookup.place_of.Given as goal

abbrev pub invariant-loop-low : goal.invariant-loop-low
invariant-loop-low l =
    (l.low ≤ l.high)
    × (l.high ≤ length l.constraint.terms)
    × Rises l.variable (drop l.high l.constraint.terms)
    × ((s : Bool) → sum_over (only l.variable s) l.constraint.terms ≡ sum_over (only l.variable s) (drop l.low l.constraint.terms))

abbrev pub decreases-loop-low : goal.decreases-loop-low
decreases-loop-low l = l.high - l.low

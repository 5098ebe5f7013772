use Rattle.std.proofs.Common.{◌≡◌, ℕ, ◌-◌, ◌≤◌, Bool, drop, length}
use Rattle.normal_form.specs.Normal.{sum_over, only}
use Rattle.substitution.proofs.covering.first_from.Given as goal

abbrev pub invariant-loop-place : goal.invariant-loop-place
invariant-loop-place l =
    (l.place ≤ length l.constraint.terms)
    × ((v : ℕ) (s : Bool) → l.variable.0 ≤ v → sum_over (only v s) (drop l.from l.constraint.terms) ≡ sum_over (only v s) (drop l.place l.constraint.terms))

abbrev pub decreases-loop-place : goal.decreases-loop-place
decreases-loop-place l = length l.constraint.terms - l.place

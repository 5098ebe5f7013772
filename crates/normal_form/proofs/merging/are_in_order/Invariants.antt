-- No two neighbours before this place are out of order.
use Rattle.std.proofs.Common.{ℕ, ◌+◌, ◌<◌, ◌≤◌, get_or}
use Rattle.linear.specs.declared.term.Term.{Term}
use Rattle.normal_form.proofs.merging.are_in_order.Given as goal

abbrev pub invariant-loop-place : goal.invariant-loop-place
invariant-loop-place l = (k : ℕ) (d : Term) → k + 1 < l.place → (get_or l.terms k d).var.0 ≤ (get_or l.terms (k + 1) d).var.0

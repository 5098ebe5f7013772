-- No term before this place can force its literal.
use Rattle.std.proofs.Common.{ℕ, ◌<◌, get_or}
use Rattle.normal_form.specs.declared.term.NormalTerm.{NormalTerm}
use Rattle.propagate.proofs.Occurrences.{TermForces}
use Rattle.analysis.specs.Biting.{literals_up_to}
use Rattle.analysis.proofs.biting.forces.Given as goal

abbrev pub invariant-loop-place : goal.invariant-loop-place
invariant-loop-place l = (k : ℕ) (d : NormalTerm) → k < l.place → TermForces (literals_up_to l.level l.trail.entries) l.slack (get_or l.constraint.terms k d) → ⊥

use Rattle.std.proofs.Common.{ℕ, ◌<◌, get_or}
use Rattle.normal_form.specs.Normal.{NormalConstraint}
use Rattle.substitution.specs.Covering.{Covers}
use Rattle.database.proofs.shown.is_covered_by.Given as goal

-- none so far
abbrev pub invariant-loop-other : goal.invariant-loop-other
invariant-loop-other l = (k : ℕ) (d : NormalConstraint) → k < l.other-index → Covers (get_or l.constraints k d) l.constraint → ⊥

use Rattle.std.proofs.Common.{◌≡◌, take}
use Rattle.normal_form.specs.Normal.{sum_over, only}
use Rattle.presolve.specs.Uses.{Notes}
use Rattle.presolve.proofs.uses.note_form.Given as goal

-- the literals of the terms so far
abbrev pub invariant-loop-place : goal.invariant-loop-place
invariant-loop-place l = Notes (λ v s. sum_over (only v s) (take l.place l.form.terms) ≡ 0) l.initial.table l.table

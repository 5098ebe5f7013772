use Rattle.std.proofs.Common.{take}
use Rattle.presolve.specs.Standing.{StandsNowhere}
use Rattle.presolve.specs.Uses.{Notes}
use Rattle.presolve.proofs.uses.note_file.Given as goal

-- the literals of the constraints so far
abbrev pub invariant-loop-place : goal.invariant-loop-place
invariant-loop-place l = Notes (λ v s. StandsNowhere (take l.place l.problem.constraints) v s) l.initial.table l.table

use Rattle.std.proofs.Common.{take}
use Rattle.presolve.specs.Forms.{AreKeysOf}
use Rattle.presolve.proofs.file_forms.keys_of.Given as goal

-- the normal constraints of the constraints so far
abbrev pub invariant-loop-place : goal.invariant-loop-place
invariant-loop-place l = AreKeysOf (take l.place l.problem.constraints) l.keys.keys

use Rattle.std.proofs.Common.{take}
use Rattle.database.specs.File.{AreOfFile}
use Rattle.database.proofs.file.constraints_of_file.Given as goal

-- the constraints so far
abbrev pub invariant-loop-place : goal.invariant-loop-place
invariant-loop-place g l = AreOfFile (take l.place l.problem.constraints) l.database

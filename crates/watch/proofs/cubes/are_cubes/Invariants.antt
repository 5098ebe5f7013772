-- The constraints so far are cubes.
use Rattle.std.proofs.Common.{All, take}
use Rattle.watch.specs.Cubes.{IsCube}
use Rattle.watch.proofs.cubes.are_cubes.Given as goal

abbrev pub invariant-loop-constraint : goal.invariant-loop-constraint
invariant-loop-constraint l = All IsCube (take l.constraint-index l.constraints)

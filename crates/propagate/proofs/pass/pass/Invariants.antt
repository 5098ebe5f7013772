-- The walk so far; and as long as nothing is listed, the constraints so far are quiet.
use Rattle.std.proofs.Common.{◌≡◌, length, map}
use Rattle.std.specs.List.{AllWithin}
use Rattle.propagate.specs.Walk.{GoesOn, IsQuiet}
use Rattle.propagate.proofs.pass.pass.Given as goal

abbrev pub invariant-loop-place : goal.invariant-loop-place
invariant-loop-place l =
    (l.trail.1 ≡ l.fn.trail.1) × GoesOn (map (λ n. n.now) l.constraints) l.fn.trail.0 l.fn.steps.items l.trail.0 l.steps.items
    × (length l.trail.0 ≡ length l.fn.trail.0 → AllWithin (IsQuiet l.trail.0) (map (λ n. n.now) l.constraints) 0 l.place)

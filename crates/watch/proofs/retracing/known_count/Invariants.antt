-- The literals so far are the same.
use Rattle.std.proofs.Common.{◌≡◌, take}
use Rattle.watch.proofs.retracing.known_count.Given as goal

abbrev pub invariant-loop-index : goal.invariant-loop-index
invariant-loop-index l = take l.index l.known ≡ take l.index l.trail

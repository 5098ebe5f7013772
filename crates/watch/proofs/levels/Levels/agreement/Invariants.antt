-- The literals so far are the same.
use Rattle.std.proofs.Common.{◌≡◌, take}
use Rattle.watch.proofs.levels.Levels.agreement.Given as goal

abbrev pub invariant-loop-index : goal.invariant-loop-index
invariant-loop-index l = take l.index l.self.0 ≡ take l.index l.given

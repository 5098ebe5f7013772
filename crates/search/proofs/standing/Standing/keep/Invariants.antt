-- The first literals that are to stay are there.
use Rattle.std.proofs.Common.{◌≡◌, length, take}
use Rattle.search.proofs.standing.Standing.keep.Given as goal

abbrev pub invariant-loop-self : goal.invariant-loop-self
invariant-loop-self g l = record {
  same : take l.count l.self.literals ≡ take l.count l.initial.self.literals;
  table : l.self.count ≡ l.initial.self.count;
}

abbrev pub decreases-loop-self : goal.decreases-loop-self
decreases-loop-self g l = length l.self.literals

-- So many variables are there.
use Rattle.std.proofs.Common.{◌≡◌, ◌≤◌, ◌⊎◌}
use Rattle.propagate.proofs.trail.Trail.widen.Given as goal

abbrev pub invariant-loop : goal.invariant-loop
invariant-loop l = record {
  assigned : l.self.0 ≡ l.initial.self.0;
  count : l.self.1 ≡ l.counter;
  more : l.initial.self.1 ≤ l.self.1;
  most : (l.self.1 ≡ l.initial.self.1) ⊎ (l.self.1 ≤ l.count);
}

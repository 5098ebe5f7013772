-- What is lent so far and what is still to come are all constraints.
use Rattle.std.proofs.Common.{◌≡◌, ◌++◌, map}
use Rattle.propagate.proofs.scan_propagator.lent.Given as goal

abbrev pub invariant-loop-constraint : goal.invariant-loop-constraint
invariant-loop-constraint l = map (λ n. n.now) l.constraints.items ++ l.constraint-iterator ≡ map (λ e. e.1) l.all.entries

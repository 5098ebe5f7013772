-- What the walk has follows from the live constraints, and the walk goes down from place to place.
use Rattle.std.proofs.Common.{◌≤◌, length}
use Rattle.proof_rules.specs.Expression.{IsPostfixOf}
use Rattle.proof_rules.specs.State.{constraint_of}
use Rattle.analysis.specs.Lines.{BeginsWith}
use Rattle.analysis.proofs.walk.walk.Given as goal

abbrev pub invariant-loop-learned : goal.invariant-loop-learned
invariant-loop-learned g l = record {
  place : l.before ≤ length l.trail.entries;
  begins : BeginsWith l.conflict l.analyser.resolvent.items.items;
  derived : IsPostfixOf (constraint_of l.kernel.state) l.analyser.resolvent.items.items l.analyser.resolvent.sum;
}

abbrev pub decreases-loop-learned : goal.decreases-loop-learned
decreases-loop-learned g l = l.before

-- The assignment is what was given and the literals of the steps so far.
use Rattle.std.proofs.Common.{◌≡◌, ◌++◌, map}
use Rattle.propagate.specs.Walk.{IsReasonedChain, literals_of}
use Rattle.propagate.proofs.SearchEnds.{unset_below, bound_of}
use Rattle.propagate.proofs.walk.complete.Given as goal

abbrev pub invariant-loop-steps : goal.invariant-loop-steps
invariant-loop-steps l =
    (l.trail.1 ≡ l.fn.start.1) × IsReasonedChain (map (λ n. n.now) l.constraints) l.fn.start.0 l.steps.items
    × (l.trail.0 ≡ l.fn.start.0 ++ literals_of l.steps.items)

abbrev pub decreases-loop-steps : goal.decreases-loop-steps
decreases-loop-steps l = unset_below (bound_of (map (λ n. n.now) l.constraints)) l.trail.0

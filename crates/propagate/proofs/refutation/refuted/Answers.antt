-- The walk from nothing ends in a falsified constraint, or in a fixpoint.
use Rattle.std.proofs.Common.{ℕ, List, map, ap}
use Rattle.linear.specs.declared.term.Lit.{Lit}
use Rattle.propagate.proofs.ReasonedChains.{decided_by}
use Rattle.propagate.proofs.refutation.refuted.Goals as goal

pub returns : goal.returns
returns c =
    decided_by (map (λ n. n.now) c.args.constraints.now) c.in_ok-nothing.nothing.0 c.in_ok-walk.walk.trail.0 c.in_ok-walk.walk.steps.items c.in_ok-walk.walk.falsified c.is_some.result
    (ap (λ (p : List Lit × ℕ). p.0) c.in_ok-nothing.ensures) c.is_some.ensures c.in_ok-walk.ensures.chain c.in_ok-walk.ensures.assigned c.in_ok-walk.ensures.end

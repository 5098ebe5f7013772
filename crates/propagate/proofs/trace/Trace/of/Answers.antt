-- The walk begins with the literals of the assignment, and its reasons are places of the constraints.
use Rattle.std.proofs.Common.{List, map, length, sym, ◌∙◌}
use Rattle.std.proofs.lemmas.List.{length-map}
use Rattle.normal_form.specs.Normal.{NormalConstraint}
use Rattle.propagate.proofs.ReasonedChains.{reasons_below}
use Rattle.propagate.proofs.WalkEnds.{start_same, trace_made}
use Rattle.propagate.proofs.trace.Trace.of.Goals as goal

pub from_walk-requires-clause-steps : goal.from_walk-requires-clause-steps
from_walk-requires-clause-steps c =
    let ns : List NormalConstraint = map (λ n. n.now) c.args.constraints.now in
    reasons_below ns c.in-Some.start.0 c.in_ok-complete-in-Some.field-0.steps.items (length c.args.ids.now)
    (length-map c.args.constraints.now (λ n. n.now) ∙ sym c.requires.count) c.in_ok-complete-in-Some.ensures.chain

pub returns : goal.returns
returns c =
    let ns : List NormalConstraint = map (λ n. n.now) c.args.constraints.now in
    trace_made ns c.args.ids.now c.args.given.now c.in-Some.start.0 c.in_ok-complete-in-Some.field-0.trail.0 c.in_ok-complete-in-Some.field-0.steps.items c.in_ok-complete-in-Some.field-0.falsified c.from_walk.result
    (start_same c.in_ok-start.field-0 c.in-Some.start c.args.given.now c.in_ok-start.ensures.same c.in-Some.is)
    c.in_ok-complete-in-Some.ensures.chain c.in_ok-complete-in-Some.ensures.assigned c.in_ok-complete-in-Some.ensures.end c.from_walk.ensures.forced c.from_walk.ensures.conflict

-- The walk ends in a falsified constraint, or in the closure.
use Rattle.std.proofs.Common.{List, map}
use Rattle.normal_form.specs.Normal.{NormalConstraint}
use Rattle.propagate.proofs.WalkEnds.{ends_falsified, ends_quiet}
use Rattle.propagate.proofs.reach.Reach.from_trail.Goals as goal

pub returns-in-Some : goal.returns-in-Some
returns-in-Some c =
    let ns : List NormalConstraint = map (λ n. n.now) c.args.constraints.now in
    ends_falsified ns c.args.start.0 _ c.in_ok-trail.field-0.steps.items c.in_ok-trail.field-0.falsified c.in-Some.field-0 c.in_ok-trail.ensures.chain c.in_ok-trail.ensures.assigned c.in_ok-trail.ensures.end c.in-Some.is

pub returns-in-None : goal.returns-in-None
returns-in-None c =
    let ns : List NormalConstraint = map (λ n. n.now) c.args.constraints.now in
    ends_quiet ns c.args.start.0 _ c.into_assigned.result c.in_ok-trail.field-0.steps.items c.in_ok-trail.field-0.falsified c.requires.consistent c.in_ok-trail.ensures.chain c.in_ok-trail.ensures.assigned c.in_ok-trail.ensures.end c.in-None.is c.into_assigned.ensures.assigned c.into_assigned.ensures.once

-- The trail has the literals of the assignment.
use Rattle.std.proofs.Common.{map, List}
use Rattle.std.proofs.lemmas.Result.{IfOk-weaker}
use Rattle.normal_form.specs.Normal.{NormalConstraint}
use Rattle.propagate.specs.Reach.{IsReach}
use Rattle.propagate.proofs.WalkEnds.{same_reach, start_same}
use Rattle.propagate.proofs.reach.Reach.of.Goals as goal

pub returns-in-Some : goal.returns-in-Some
returns-in-Some c =
    let ns : List NormalConstraint = map (λ n. n.now) c.args.constraints.now in
    let same = start_same c.in_ok-start.field-0 c.in-Some.start c.args.given.now c.in_ok-start.ensures.same c.in-Some.is in
    IfOk-weaker c.from_trail.result (IsReach ns c.in-Some.start.0) (IsReach ns c.args.given.now) (λ r. same_reach ns c.in-Some.start.0 c.args.given.now same r) c.from_trail.ensures

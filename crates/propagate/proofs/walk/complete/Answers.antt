-- Each pass goes on from the one before, and lists a variable more or comes to the end.
use Rattle.std.proofs.Common.{List, map, sym, ◌∙◌}
use Rattle.normal_form.specs.Normal.{NormalConstraint}
use Rattle.propagate.proofs.PassSteps.{goes_fewer, walk_on}
use Rattle.propagate.proofs.walk.complete.Goals as goal

pub returns-then-is_some-clause-chain : goal.returns-then-is_some-clause-chain
returns-then-is_some-clause-chain c =
    let ns : List NormalConstraint = map (λ n. n.now) c.args.constraints.now in
    (walk_on ns c.args.start.0 c.loop-steps.trail.0 c.pass.new.trail.0 c.loop-steps.steps.items c.pass.new.steps.items c.loop-steps.invariant.1 c.loop-steps.invariant.2 c.in_ok-falsified.ensures.goes_on).0

pub loop-steps-smaller : goal.loop-steps-smaller
loop-steps-smaller c =
    let ns : List NormalConstraint = map (λ n. n.now) c.args.constraints.now in
    goes_fewer ns c.loop-steps.trail.0 c.pass.new.trail.0 c.loop-steps.steps.items c.pass.new.steps.items c.in_ok-falsified.ensures.goes_on
    (λ same. c.if-len-before.false (c.len.ensures.value ∙ same ∙ sym c.len-before.ensures.value))

pub loop-steps-preserved : goal.loop-steps-preserved
loop-steps-preserved c =
    let ns : List NormalConstraint = map (λ n. n.now) c.args.constraints.now in
    let on = walk_on ns c.args.start.0 c.loop-steps.trail.0 c.pass.new.trail.0 c.loop-steps.steps.items c.pass.new.steps.items c.loop-steps.invariant.1 c.loop-steps.invariant.2 c.in_ok-falsified.ensures.goes_on in
    (c.in_ok-falsified.ensures.count ∙ c.loop-steps.invariant.0, on.0, on.1)

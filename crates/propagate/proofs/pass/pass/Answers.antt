-- What is visited is a constraint at its place; as long as nothing is listed, those so far are quiet under one assignment.
use Rattle.std.proofs.Common.{List, map, ◌∙◌, arith}
use Rattle.normal_form.specs.Normal.{NormalConstraint}
use Rattle.propagate.proofs.PassSteps.{goes_by, goes_both, quiet_more}
use Rattle.propagate.proofs.SeenLists.{stands_seen}
use Rattle.propagate.proofs.pass.pass.Goals as goal

pub returns-then-branch-clause-goes_on : goal.returns-then-branch-clause-goes_on
returns-then-branch-clause-goes_on c =
    let ns : List NormalConstraint = map (λ n. n.now) c.args.constraints.now in
    let n = c.index-constraints-place.result in
    let at = stands_seen (λ r. r.now) c.args.constraints.now c.loop-place.place n (omega arith) c.index-constraints-place.is in
    let g = goes_by ns c.loop-place.place n.now c.loop-place.trail.0 c.visit.new.trail.0 c.loop-place.steps.items c.visit.new.steps.items at c.in_ok-visit.ensures.goes_on in
    goes_both ns c.args.trail.now.0 c.loop-place.trail.0 c.visit.new.trail.0 c.args.steps.now.items c.loop-place.steps.items c.visit.new.steps.items c.loop-place.invariant.1 g

pub loop-place-preserved : goal.loop-place-preserved
loop-place-preserved c =
    let ns : List NormalConstraint = map (λ n. n.now) c.args.constraints.now in
    let n = c.index-constraints-place.result in
    let at = stands_seen (λ r. r.now) c.args.constraints.now c.loop-place.place n (omega arith) c.index-constraints-place.is in
    let g = goes_by ns c.loop-place.place n.now c.loop-place.trail.0 c.visit.new.trail.0 c.loop-place.steps.items c.visit.new.steps.items at c.in_ok-visit.ensures.goes_on in (
      c.in_ok-visit.ensures.count ∙ c.loop-place.invariant.0,
      goes_both ns c.args.trail.now.0 c.loop-place.trail.0 c.visit.new.trail.0 c.args.steps.now.items c.loop-place.steps.items c.visit.new.steps.items c.loop-place.invariant.1 g,
      quiet_more (λ r. r.now) c.args.constraints.now c.args.trail.now.0 c.loop-place.trail.0 c.visit.new.trail.0 c.args.steps.now.items c.loop-place.steps.items c.visit.new.steps.items c.loop-place.place n c.loop-place.invariant.1 g
          c.loop-place.invariant.2 (omega arith) c.index-constraints-place.is (c.in_ok-visit.ensures.quiet c.if-branch.false),
    )

-- One term more; at the first coefficient that is not above the slack, and at the end, nothing more is forced.
use Rattle.std.proofs.Common.{◌≡◌, ◌<◌, ◌≤◌, ℕ, length, get_or, refl, ap, subst, ◌∙◌, arith}
use Rattle.normal_form.specs.declared.term.NormalTerm.{NormalTerm}
use Rattle.normal_form.specs.Normal.{NormalConstraint}
use Rattle.normal_form.proofs.Sums.{bound_at}
use Rattle.propagate.proofs.Occurrences.{forced_at}
use Rattle.ledger.specs.Orders.{coefficient_at, place_in}
use Rattle.trail.specs.Trails.{on_trail}
use Rattle.ledger.proofs.ForcedLiterals.{as_many_on, coefficient_there, forced_both, forced_none, passed_more, quiet_from, slack_kept}
use Rattle.ledger.proofs.forcing.force_terms.Goals as goal

pub loop-index-init : goal.loop-index-init
loop-index-init c = record {
  propagated = refl;
  count = refl;
  capacity = refl;
  as_many = c.requires.as_many;
  slack = c.requires.slack;
  forced = forced_none c.args.constraint.now c.args.place (on_trail c.args.trail.now) c.args.reasons.now.items;
  passed = c.requires.passed;
}

pub term-term-requires : goal.term-term-requires
term-term-requires c = omega (arith, c.place_in.ensures, c.requires.order.below c.loop-index.index (omega (arith, c.loop-index-test.true, c.len-index-end.ensures.value)))

pub force_term-requires-clause-variable : goal.force_term-requires-clause-variable
force_term-requires-clause-variable c =
    let n : NormalConstraint = c.args.constraint.now in
    let low : c.place_in.result < length n.terms = omega (arith, c.place_in.ensures, c.requires.order.below c.loop-index.index (omega (arith, c.loop-index-test.true, c.len-index-end.ensures.value))) in
    omega (arith, bound_at n.terms c.place_in.result c.term-term.result low, ap (λ (t : NormalTerm). t.var.0) c.term-term.ensures.value, c.requires.variables, c.loop-index.invariant.count)

pub force_term-requires-clause-forces : goal.force_term-requires-clause-forces
force_term-requires-clause-forces c can =
    let n : NormalConstraint = c.args.constraint.now in
    let low : c.place_in.result < length n.terms = omega (arith, c.place_in.ensures, c.requires.order.below c.loop-index.index (omega (arith, c.loop-index-test.true, c.len-index-end.ensures.value))) in
    forced_at (on_trail c.loop-index.trail) n c.args.slack c.place_in.result c.term-term.result c.len-index-end.ensures.normal.rises low c.term-term.ensures.value c.loop-index.invariant.slack can

pub loop-index-preserved : goal.loop-index-preserved
loop-index-preserved c =
    let n : NormalConstraint = c.args.constraint.now in
    let i = c.loop-index.invariant in
    let f = c.force_term.ensures in
    let old = c.loop-index in
    let new = c.force_term.new in
    let inside : c.loop-index.index < length n.terms = omega (arith, c.loop-index-test.true, c.len-index-end.ensures.value) in
    let is = subst (λ (k : ℕ). c.term-term.result ≡ get_or n.terms k c.term-term.result) c.place_in.ensures c.term-term.ensures.value in
    record {
      propagated = f.propagated ∙ i.propagated;
      count = f.count ∙ i.count;
      capacity = f.capacity ∙ i.capacity;
      as_many = as_many_on n c.args.place (on_trail old.trail) (on_trail new.trail) old.reasons.items new.reasons.items i.as_many f.forced;
      slack = slack_kept n c.args.place (on_trail old.trail) old.reasons.items (on_trail new.trail) new.reasons.items c.args.slack c.len-index-end.ensures.normal.rises f.forced i.slack;
      forced = forced_both n c.args.place (on_trail c.args.trail.now) (on_trail old.trail) (on_trail new.trail) c.args.reasons.now.items old.reasons.items new.reasons.items i.forced f.forced;
      passed = passed_more n c.args.order.now (on_trail old.trail) (on_trail new.trail) f.forced.literals c.loop-index.index c.term-term.result i.passed f.forced.longer inside c.requires.order is f.done;
    }

pub returns-then-term-slack-clause-quiet : goal.returns-then-term-slack-clause-quiet
returns-then-term-slack-clause-quiet c =
    let n : NormalConstraint = c.args.constraint.now in
    let i = c.loop-index.invariant in
    let low : c.place_in.result < length n.terms = omega (arith, c.place_in.ensures, c.requires.order.below c.loop-index.index (omega (arith, c.loop-index-test.true, c.len-index-end.ensures.value))) in
    let there : coefficient_at n.terms c.place_in.result ≡ c.term-term.result.coef = coefficient_there n.terms c.place_in.result c.term-term.result low c.term-term.ensures.value in
    let small : coefficient_at n.terms (place_in c.args.order.now c.loop-index.index) ≤ c.args.slack = omega (arith, there, ap (coefficient_at n.terms) c.place_in.ensures, c.if-term-slack.true) in
    quiet_from n c.args.order.now (on_trail c.loop-index.trail) c.args.slack c.loop-index.index c.len-index-end.ensures.normal.rises i.slack c.requires.order i.passed (λ h. small)

pub returns-clause-quiet : goal.returns-clause-quiet
returns-clause-quiet c =
    let n : NormalConstraint = c.args.constraint.now in
    let i = c.loop-index.invariant in
    let past : length n.terms ≤ c.loop-index.index = omega (arith, c.loop-index-test.false, c.len-index-end.ensures.value) in
    quiet_from n c.args.order.now (on_trail c.loop-index.trail) c.args.slack c.loop-index.index c.len-index-end.ensures.normal.rises i.slack c.requires.order i.passed (λ h. absurd (omega (arith, past, h)))

pub returns-clause-passed : goal.returns-clause-passed
returns-clause-passed c k h free = c.loop-index.invariant.passed k (omega (arith, h, c.loop-index-test.false, c.len-index-end.ensures.value, c.len.ensures.value)) free

-- The place that was taken is quiet again.
use Rattle.std.proofs.Common.{List, ap, subst, ◌∙◌}
use Rattle.linear.specs.declared.term.Lit.{Lit}
use Rattle.normal_form.specs.Normal.{NormalConstraint}
use Rattle.ledger.specs.Ledgers.{shown}
use Rattle.watch.specs.Looking.{AreLookedAt, IsVisited}
use Rattle.watch.proofs.Forcing.{fixpoint_when_empty}
use Rattle.watch.proofs.Propagating.{prefix_both}
use Rattle.watch.proofs.Walking.{goes_both}
use Rattle.watch.proofs.walk.visit_all.Goals as goal

pub returns-in-Err-clause-goes_on : goal.returns-in-Err-clause-goes_on
returns-in-Err-clause-goes_on c = goes_both c.args.ledger.now c.loop-place.ledger c.visit.new.ledger c.loop-place.invariant.goes_on c.visit.ensures.goes_on

pub returns-in-Ok-Some-clause-goes_on : goal.returns-in-Ok-Some-clause-goes_on
returns-in-Ok-Some-clause-goes_on c = goes_both c.args.ledger.now c.loop-place.ledger c.visit.new.ledger c.loop-place.invariant.goes_on c.visit.ensures.goes_on

pub loop-place-preserved : goal.loop-place-preserved
loop-place-preserved c =
    let i = c.loop-place.invariant in
    let f = c.visit.ensures in
    let new = c.visit.new.ledger in
    let seen = subst (IsVisited (shown c.loop-place.ledger.slots) new c.visit.new.queue.0) c.in-Ok-None.field-0-is c.in-Ok-None.ensures.end in
    record {
      goes_on = goes_both c.args.ledger.now c.loop-place.ledger new i.goes_on f.goes_on;
      first = prefix_both c.args.ledger.now.propagated c.loop-place.ledger.propagated new.propagated i.first f.first;
      propagated = seen.0;
      count = f.count ∙ c.take.ensures.count ∙ i.count;
      looked_at = subst (λ (ks : List NormalConstraint). AreLookedAt ks new.propagated c.visit.new.queue.0) (ap shown i.goes_on.slots) seen.1;
    }

pub returns-clause-end : goal.returns-clause-end
returns-clause-end c =
    let i = c.loop-place.invariant in
    let ns : List NormalConstraint = shown c.args.ledger.now.slots in
    let ended = c.in_default.ensures.value in
    (ended.1, fixpoint_when_empty ns c.loop-place.ledger.assigned c.loop-place.queue.0 ended.0 (subst (λ (xs : List Lit). AreLookedAt ns xs c.loop-place.queue.0) i.propagated i.looked_at))

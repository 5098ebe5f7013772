-- One literal more, where one is left.
use Rattle.std.proofs.Common.{◌≡◌, ◌∙◌, Bool, true, false, refl, ap, sym}
use Rattle.std.proofs.lemmas.Bool.{false≢true}
use Rattle.ledger.specs.Ledgers.{State}
use Rattle.watch.proofs.Propagating.{one_on, propagates_both, propagates_not, propagates_nowhere, propagates_one}
use Rattle.watch.proofs.walk.propagate.Goals as goal

-- where all was propagated at first, nothing is left
left : (first s : State) (b : Bool) → b ≡ false → (s.propagated ≡ s.assigned → b ≡ true) → s.assigned ≡ first.assigned → (first.propagated ≡ first.assigned → s.propagated ≡ first.propagated) → first.propagated ≡ first.assigned → ⊥
left first s b f is assigned idle all = false≢true (sym f ∙ is (idle all ∙ all ∙ sym assigned))

pub loop-ledger-init : goal.loop-ledger-init
loop-ledger-init c = record { on = propagates_nowhere c.args.ledger.now c.args.queue.now.0; count = refl; idle = λ e. (refl, refl) }

pub returns-in_err-falsified-clause-on : goal.returns-in_err-falsified-clause-on
returns-in_err-falsified-clause-on c =
    let e = c.in_err-falsified.ensures in
    propagates_both c.args.ledger.now c.loop-ledger.ledger c.propagate_next.new.self c.args.queue.now.0 c.loop-ledger.queue.0 c.propagate_next.new.queue.0 c.loop-ledger.invariant.on
    (propagates_not c.loop-ledger.ledger c.propagate_next.new.self c.loop-ledger.queue.0 c.propagate_next.new.queue.0 e.same e.err e.kept)

pub returns-in_err-falsified-clause-idle : goal.returns-in_err-falsified-clause-idle
returns-in_err-falsified-clause-idle c all =
    let i = c.loop-ledger.invariant in
    absurd (left c.args.ledger.now c.loop-ledger.ledger c.is_propagated.result c.loop-ledger-test.true c.is_propagated.ensures.1 (ap (λ (s : State). s.assigned) i.on.same) (λ e. (i.idle e).0) all)

pub returns-then-is_some-clause-idle : goal.returns-then-is_some-clause-idle
returns-then-is_some-clause-idle c all =
    let i = c.loop-ledger.invariant in
    absurd (left c.args.ledger.now c.loop-ledger.ledger c.is_propagated.result c.loop-ledger-test.true c.is_propagated.ensures.1 (ap (λ (s : State). s.assigned) i.on.same) (λ e. (i.idle e).0) all)

pub loop-ledger-preserved : goal.loop-ledger-preserved
loop-ledger-preserved c =
    let i = c.loop-ledger.invariant in
    let e = c.in_ok-falsified.ensures in
    record {
      on = propagates_both c.args.ledger.now c.loop-ledger.ledger c.propagate_next.new.self c.args.queue.now.0 c.loop-ledger.queue.0 c.propagate_next.new.queue.0 i.on
          (propagates_one c.loop-ledger.ledger c.propagate_next.new.self c.loop-ledger.queue.0 c.propagate_next.new.queue.0 e.same e.kept (one_on c.loop-ledger.ledger c.propagate_next.new.self c.propagate_next.new.queue.0 c.in_ok-falsified.falsified (sym c.is_some.ensures ∙ c.if-is_some.false) e.end));
      count = e.count ∙ i.count;
      idle = λ all. absurd (left c.args.ledger.now c.loop-ledger.ledger c.is_propagated.result c.loop-ledger-test.true c.is_propagated.ensures.1 (ap (λ (s : State). s.assigned) i.on.same) (λ f. (i.idle f).0) all);
    }

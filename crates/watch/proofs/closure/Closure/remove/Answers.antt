-- Nothing stands on the constraint any more, and nothing is given.
use Rattle.std.proofs.Common.{◌≡◌, ◌<◌, ◌++◌, ◌∙◌, ℕ, List, Option, None, ap, length, set, subst, sym, arith}
use Rattle.std.proofs.lemmas.List.{set-append_left, set-append_right}
use Rattle.normal_form.specs.Normal.{NormalConstraint}
use Rattle.ledger.specs.Ledgers.{State, shown}
use Rattle.watch.specs.Rests.{IsRest}
use Rattle.watch.proofs.KeptLevels.{kept_root, root_kept}
use Rattle.watch.proofs.Resting.{rest_without}
use Rattle.watch.proofs.TakenBack.{root_without}
use Rattle.watch.proofs.closure.Closure.remove.Goals as goal

pub returns-then-place-count-clause-slots : goal.returns-then-place-count-clause-slots
returns-then-place-count-clause-slots c =
    let e = c.self.inside in
    let count : ℕ = c.count-count.result in
    ap (λ (os : List (Option NormalConstraint)). e.ledger.slots ++ os) c.take.ensures.rest
    ∙ sym (set-append_right e.ledger.slots e.arrivals count c.args.place None (sym c.count-count.ensures) c.if-place-count.true)
    ∙ ap (λ (os : List (Option NormalConstraint)). set os c.args.place None) c.self.view_is

pub release-requires-clause-root : goal.release-requires-clause-root
release-requires-clause-root c =
    root_kept c.backtrack_to_root.new.ledger c.backtrack_to_root.new.levels c.backtrack_to_root.new.queue.0 c.backtrack_to_root.new.queue.1 c.reveal.ensures.reasons.as_many c.backtrack_to_root.ensures.levels c.backtrack_to_root.ensures.kept

pub invariant_of-self-2 : goal.invariant_of-self-2
invariant_of-self-2 c =
    let before = c.release.new.ledger in
    let new = c.take_out.new.self in
    let many : length new.reasons ≡ length new.assigned =
    ap (λ (s : State). length s.reasons) c.take_out.ensures.slots ∙ c.reveal-2.ensures.reasons.as_many ∙ sym (ap (λ (s : State). length s.assigned) c.take_out.ensures.slots) in
    let rest = c.release.new.rest in
    let still : IsRest (shown before.slots) before.propagated rest = subst (λ (os : List (Option NormalConstraint)). IsRest (shown os) before.propagated rest) (sym c.release.ensures.slots) c.release.ensures.rest in (
      kept_root new c.backtrack_to_root.new.levels c.release.new.queue.0 c.release.new.queue.1 many c.backtrack_to_root.ensures.levels
          (root_without before new c.args.place c.release.new.queue.0 c.release.new.queue.1 c.take_out.ensures.slots c.release.ensures.root),
      subst (λ (s : State). IsRest (shown s.slots) s.propagated rest) (sym c.take_out.ensures.slots) (rest_without before.slots c.args.place before.propagated rest still),
    )

pub returns-clause-slots : goal.returns-clause-slots
returns-clause-slots c =
    let e = c.self.inside in
    let low : c.args.place < length e.ledger.slots = omega (arith, c.count-count.ensures, c.if-place-count.false) in
    ap (λ (s : State). s.slots ++ e.arrivals) c.take_out.ensures.slots
    ∙ ap (λ (os : List (Option NormalConstraint)). set os c.args.place None ++ e.arrivals) (c.release.ensures.slots ∙ c.backtrack_to_root.ensures.slots)
    ∙ sym (set-append_left e.ledger.slots e.arrivals c.args.place None low)
    ∙ ap (λ (os : List (Option NormalConstraint)). set os c.args.place None) c.self.view_is

pub backtrack_to_root-requires-clause-rest : goal.backtrack_to_root-requires-clause-rest
backtrack_to_root-requires-clause-rest c = c.self.invariant.1

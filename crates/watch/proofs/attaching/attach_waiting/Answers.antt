-- What came in waits; where it does not come in, no place more waits.
use Rattle.std.proofs.Common.{◌≡◌, ◌++◌, ◌∷◌, [], ℕ, List, Option, Contains, length, ap, sym, subst, ◌∙◌, arith}
use Rattle.normal_form.specs.Normal.{NormalConstraint}
use Rattle.ledger.specs.Ledgers.{State}
use Rattle.watch.proofs.Deciding.{looked_with_slot}
use Rattle.watch.proofs.attaching.attach_waiting.Goals as goal

pub shrink-requires : goal.shrink-requires
shrink-requires c = record { below = rw c.in_ok-grow.ensures.ok (λ k d h. omega (arith, c.reveal.ensures.below k d h)) }

pub returns-clause-looked_at : goal.returns-clause-looked_at
returns-clause-looked_at c =
    let old = c.args.ledger.now in
    let slots : c.attach.new.self.slots ≡ old.slots ++ c.args.slot.now ∷ [] = ap (λ (s : State). s.slots) c.in-Ok.ensures.ok ∙ ap (λ (os : List (Option NormalConstraint)). os ++ c.args.slot.now ∷ []) c.in_ok-widen.ensures.slots in
    let propagated : c.attach.new.self.propagated ≡ old.propagated = ap (λ (s : State). s.propagated) c.in-Ok.ensures.ok ∙ c.in_ok-widen.ensures.propagated in
    let place : c.count-place.result ≡ length old.slots = c.count-place.ensures ∙ ap (length {A = Option NormalConstraint}) c.in_ok-widen.ensures.slots in
    let waiting : c.grow.new.self.0 ≡ c.args.queue.now.0 = ap (λ (p : List ℕ × ℕ). p.0) c.in_ok-grow.ensures.ok in
    looked_with_slot old.slots c.attach.new.self.slots c.args.slot.now old.propagated c.attach.new.self.propagated c.args.queue.now.0 c.add.new.self.0 c.count-place.result slots propagated place c.requires.looked_at
    (λ k x. c.add.ensures.kept k (subst (λ (q : List ℕ). Contains q k) (sym waiting) x)) c.add.ensures.there

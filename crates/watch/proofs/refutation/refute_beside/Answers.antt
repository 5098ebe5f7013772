-- All that was added is taken away.
use Rattle.std.proofs.Common.{◌≡◌, ◌∙◌, ◌++◌, ℕ, List, Option, Some, ap, sym, length, map, take, arith, get_or, None}
use Rattle.linear.specs.declared.term.Lit.{Lit}
use Rattle.normal_form.specs.Normal.{NormalConstraint}
use Rattle.std.proofs.Math.Seq.{take-append_seam}
use Rattle.ledger.specs.Ledgers.{State}
use Rattle.watch.proofs.Deciding.{live_after, reasons_below, root_again}
use Rattle.watch.proofs.refutation.refute_beside.Goals as goal

pub detach_from-requires-clause-live : goal.detach_from-requires-clause-live
detach_from-requires-clause-live c = λ k low high.
    let slots = c.backtrack.ensures.slots ∙ c.refute_with-answer.ensures.slots.1 in
    live_after c.args.ledger.now.slots c.backtrack.new.ledger.slots c.refute_with-answer.ensures.slots.0 k slots (omega (arith, low, c.count-count.ensures)) high

pub detach_from-requires-clause-reasons : goal.detach_from-requires-clause-reasons
detach_from-requires-clause-reasons c = λ k place h is.
    let old = c.args.ledger.now in
    let assigned : c.backtrack.new.ledger.assigned ≡ old.assigned = c.backtrack.ensures.assigned ∙ ap (λ (n : ℕ). take n c.refute_with-answer.new.ledger.assigned) c.len-root.ensures.value ∙ c.refute_with-answer.ensures.literals in
    let reasons : c.backtrack.new.ledger.reasons ≡ old.reasons = c.backtrack.ensures.reasons ∙ ap (λ (n : ℕ). take n c.refute_with-answer.new.ledger.reasons) c.len-root.ensures.value ∙ c.refute_with-answer.ensures.reasons in
    omega (arith, c.count-count.ensures, reasons_below old.slots old.assigned old.reasons c.len-root.ensures.reasons k place (omega (arith, h, ap (length {A = Lit}) assigned)) (ap (λ (rs : List (Option ℕ)). get_or rs k None) (sym reasons) ∙ is))

pub returns-clause-root : goal.returns-clause-root
returns-clause-root c =
    let old = c.args.ledger.now in
    let new = c.detach_from.new.ledger in
    let propagated : new.propagated ≡ old.assigned = ap (λ (s : State). s.propagated) c.detach_from.ensures ∙ c.backtrack.ensures.propagated ∙ ap (λ (n : ℕ). take n c.refute_with-answer.new.ledger.propagated) (c.len-root.ensures.value ∙ sym (ap (length {A = Lit}) c.requires.propagated)) ∙ c.refute_with-answer.ensures.first ∙ c.requires.propagated in
    let reasons : new.reasons ≡ old.reasons = ap (λ (s : State). s.reasons) c.detach_from.ensures ∙ c.backtrack.ensures.reasons ∙ ap (λ (n : ℕ). take n c.refute_with-answer.new.ledger.reasons) c.len-root.ensures.value ∙ c.refute_with-answer.ensures.reasons in
    let slots : new.slots ≡ old.slots = ap (λ (s : State). s.slots) c.detach_from.ensures ∙ ap (λ (os : List (Option NormalConstraint)). take c.count-count.result os) (c.backtrack.ensures.slots ∙ c.refute_with-answer.ensures.slots.1)
    ∙ ap (λ (n : ℕ). take n (old.slots ++ map Some c.refute_with-answer.ensures.slots.0)) c.count-count.ensures ∙ take-append_seam old.slots (map Some c.refute_with-answer.ensures.slots.0) in
    root_again old new c.clear.new.self.0 c.clear.new.self.1 slots propagated reasons (ap (λ (p : List ℕ × ℕ). p.1) c.clear.ensures ∙ c.count-count.ensures) c.requires.fixpoint c.requires.root.forced

-- Nothing is there, and nothing is known to be quiet.
use Rattle.std.proofs.Common.{◌≡◌, ℕ, List, [], ◌∙◌, ap, length, refl, subst, sym, arith}
use Rattle.ledger.specs.Ledgers.{State, shown}
use Rattle.watch.specs.declared.rest.Rest.{Rest}
use Rattle.watch.specs.Rests.{IsRest}
use Rattle.watch.specs.Roots.{IsRoot}
use Rattle.watch.proofs.KeptLevels.{kept_root}
use Rattle.watch.proofs.Resting.{rest_nothing}
use Rattle.watch.proofs.closure.Closure.new.Goals as goal

abbrev empty : State
empty = record { slots = []; assigned = []; propagated = []; reasons = []; variables = 0; listed = 0 }

empty_root : IsRoot empty [] 0
empty_root = record { places = refl; looked_at = λ k low. absurd (omega (arith, low)); forced = ([], refl) }

pub invariant_of-result : goal.invariant_of-result
invariant_of-result c =
    let s = c.new.result in
    let queue = c.new-2.result in
    let root : IsRoot s queue.0 queue.1 = subst (λ (t : State). IsRoot t queue.0 queue.1) (sym c.new.ensures) (subst (λ (q : List ℕ × ℕ). IsRoot empty q.0 q.1) (sym c.new-2.ensures) empty_root) in
    let many : length s.reasons ≡ length s.assigned = ap (λ (t : State). length t.reasons) c.new.ensures ∙ sym (ap (λ (t : State). length t.assigned) c.new.ensures) in (
      kept_root s c.new-3.result queue.0 queue.1 many c.new-3.ensures root,
      subst (λ (r : Rest). IsRest (shown s.slots) s.propagated r) (sym c.nothing.ensures) (rest_nothing (shown s.slots) s.propagated),
    )

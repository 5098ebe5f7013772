-- None of those that stay stands on the constraint.
use Rattle.std.proofs.Common.{◌≡◌, ◌∙◌, ℕ, List, Option, ap, sym, subst, length, take}
use Rattle.normal_form.specs.Normal.{NormalConstraint}
use Rattle.ledger.specs.Ledgers.{State, shown}
use Rattle.watch.specs.Looking.{AreLookedAt}
use Rattle.watch.specs.Roots.{IsRoot}
use Rattle.watch.proofs.TakenBack.{forced_first}
use Rattle.watch.proofs.release.release.Goals as goal

-- with the first literals alone it is the bottom of the trail still
still_root : (old new : State) (before waiting : List ℕ) (places count height : ℕ) → IsRoot old before places → count ≡ places → new.slots ≡ old.slots → new.reasons ≡ take height old.reasons → AreLookedAt (shown old.slots) new.propagated waiting → IsRoot new waiting count
still_root old new before waiting places count height root same slots reasons looked_at = record {
  places = same ∙ root.places ∙ ap length (sym slots);
  looked_at = subst (λ (os : List (Option NormalConstraint)). AreLookedAt (shown os) new.propagated waiting) (sym slots) looked_at;
  forced = forced_first old.reasons new.reasons height reasons root.forced;
}

pub returns-clause-root : goal.returns-clause-root
returns-clause-root c =
    let t = c.backtrack_and_queue.ensures in
    still_root c.args.ledger.now c.backtrack_and_queue.new.ledger c.args.queue.now.0 c.backtrack_and_queue.new.queue.0 c.args.queue.now.1 c.backtrack_and_queue.new.queue.1 c.count_before-count.result c.requires.root t.places t.slots t.reasons t.looked_at

pub returns-then-is_near-clause-root : goal.returns-then-is_near-clause-root
returns-then-is_near-clause-root c =
    let t = c.backtrack_to_rest.ensures in
    still_root c.args.ledger.now c.backtrack_to_rest.new.ledger c.args.queue.now.0 c.backtrack_to_rest.new.queue.0 c.args.queue.now.1 c.backtrack_to_rest.new.queue.1 c.args.rest.now.height c.requires.root t.places t.slots t.reasons t.looked_at

-- What may force the literal again waits.
use Rattle.std.proofs.Common.{◌≡◌, ◌∙◌, ◌++◌, ◌∷◌, [], ℕ, ◌<◌, ◌⊎◌, List, Option, Contains, ap, subst, sym}
use Rattle.std.proofs.lemmas.Bool.{false≢true}
use Rattle.linear.specs.declared.term.Lit.{Lit}
use Rattle.normal_form.specs.Normal.{NormalConstraint}
use Rattle.propagate.specs.Literals.{coefficient_of, lists}
use Rattle.propagate.specs.Walk.{IsQuiet}
use Rattle.ledger.specs.Ledgers.{constraint_at, shown}
use Rattle.ledger.specs.Watched.{IsOpen}
use Rattle.watch.specs.Looking.{AreLookedAt}
use Rattle.watch.proofs.TakenBack.{looked_back, shorter, still_propagated, whole_back}
use Rattle.watch.proofs.release.backtrack_one.Goals as goal

pub returns-then-not-is_propagated-clause-looked_at : goal.returns-then-not-is_propagated-clause-looked_at
returns-then-not-is_propagated-clause-looked_at c =
    let old = c.args.ledger.now in
    let new = c.unassign_last.new.self in
    let behind = c.reveal.ensures.propagated in
    let some : old.propagated ≡ old.assigned → ⊥ = λ all. false≢true (sym c.if-not-is_propagated.true ∙ c.is_propagated.ensures.1 all) in
    let same : new.propagated ≡ old.propagated = c.unassign_last.ensures.propagated ∙ still_propagated old.propagated old.assigned new.assigned behind.0 behind.1 some (shorter c.unassign_last.result old.assigned new.assigned c.unassign_last.ensures.assigned) in
    subst (λ (xs : List Lit). AreLookedAt (shown old.slots) xs c.args.queue.now.0) (sym same) c.requires.looked_at

pub queue_places-requires-clause-unfallen : goal.queue_places-requires-clause-unfallen
queue_places-requires-clause-unfallen c =
    let old = c.args.ledger.now in
    let new = c.unassign_last-2.new.self in
    let t = c.in-Some.ensures in
    let all : old.propagated ≡ old.assigned = c.is_propagated.ensures.0 c.if-not-is_propagated.false in
    subst (λ (xs : List Lit). IsOpen xs c.in-Some.literal) (sym (whole_back old.propagated old.assigned new.assigned new.propagated c.in-Some.literal all t.assigned t.propagated)) t.opposite_unset

pub returns-in-Some-clause-looked_at : goal.returns-in-Some-clause-looked_at
returns-in-Some-clause-looked_at c =
    let old = c.args.ledger.now in
    let new = c.unassign_last-2.new.self in
    let t = c.in-Some.ensures in
    let l : Lit = c.in-Some.literal in
    let all : old.propagated ≡ old.assigned = c.is_propagated.ensures.0 c.if-not-is_propagated.false in
    let left : new.propagated ≡ new.assigned = whole_back old.propagated old.assigned new.assigned new.propagated l all t.assigned t.propagated in
    let queued = subst (λ (os : List (Option NormalConstraint)). (k : ℕ) → 0 < coefficient_of (constraint_at (shown os) k) l → IsQuiet new.propagated (constraint_at (shown os) k) ⊎ Contains c.queue_places.new.queue.0 k) t.slots c.queue_places.ensures.queued in
    looked_back (shown old.slots) old.propagated new.propagated l c.args.queue.now.0 c.queue_places.new.queue.0 (all ∙ t.assigned ∙ ap (λ (xs : List Lit). xs ++ l ∷ []) (sym left)) (ap (λ (xs : List Lit). lists xs l) left ∙ t.unset) c.requires.looked_at c.queue_places.ensures.kept queued

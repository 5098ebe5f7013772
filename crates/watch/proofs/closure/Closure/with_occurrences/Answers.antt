-- All clauses are listed, and then the entries of the literal are those of the constraints that have it.
use Rattle.std.proofs.Common.{rules, ◌≡◌, ◌↔◌, ℕ, Contains, List, Option, ap, subst, sym, ◌∙◌}
use Rattle.std.proofs.lemmas.Result.{IfOk-weaker}
use Rattle.normal_form.specs.Normal.{NormalConstraint}
use Rattle.ledger.specs.Entered.{all_of}
use Rattle.ledger.specs.Ledgers.{State}
use Rattle.propagate.specs.Content.{AddsOccurrences, HasLiteral}
use Rattle.propagate.specs.Ids.{IdSet}
use Rattle.watch.specs.Lent.{AreAdded}
use Rattle.watch.specs.Named.{AreNamed, content_at}
use Rattle.watch.proofs.AddedIds.{occurrences_added}
use Rattle.watch.proofs.LentIds.{lent_exactly}
use Rattle.watch.proofs.Resting.{rest_same}
use Rattle.watch.proofs.closure.Closure.with_occurrences.Goals as goal

abbrev Slots : Type 0
Slots = List (Option NormalConstraint)

pub returns-clause-added : goal.returns-clause-added
returns-clause-added c =
    let slots : Slots = c.list_clauses.new.self.slots in
    let ids : List ℕ = c.args.ids.now in
    let same : slots ≡ c.args.self.now = ap (λ (s : State). s.slots) c.list_clauses.ensures.same ∙ c.in_ok-attach_to.ensures.all ∙ c.self.view_is in
    IfOk-weaker c.add_to.result (AreAdded c.of.result c.args.gathered)
    (λ (all : IdSet). (places : List (ℕ × ℕ)) → AreNamed places ids c.args.self.now → AddsOccurrences (content_at c.args.self.now places) c.args.literal c.args.gathered all)
    (λ all added. subst (λ (ss : Slots). (places : List (ℕ × ℕ)) → AreNamed places ids ss → AddsOccurrences (content_at ss places) c.args.literal c.args.gathered all) same
    (λ places named.
    let exactly : (id : ℕ) → Contains c.of.result id ↔ HasLiteral (content_at slots places) c.args.literal id = subst (λ (ks : List ℕ). (id : ℕ) → Contains ks id ↔ HasLiteral (content_at slots places) c.args.literal id) (sym c.of.ensures)
    (lent_exactly slots places ids c.args.literal (all_of c.entries-entries.result) named c.entries-entries.ensures.value) in
    occurrences_added (content_at slots places) c.args.literal c.of.result c.args.gathered all exactly added))
    c.add_to.ensures

pub invariant_of-self : goal.invariant_of-self
invariant_of-self c = (c.attach_to.ensures.kept c.self.inside.levels c.self.invariant.0, c.attach_to.ensures.rest c.self.inside.rest c.self.invariant.1)

pub invariant_of-self-in_err-list_clauses : goal.invariant_of-self-in_err-list_clauses
invariant_of-self-in_err-list_clauses c =
    let same = c.list_clauses.ensures.same in (
      search rules,
      rest_same c.attach_to.new.ledger c.list_clauses.new.self c.self.inside.rest (ap (λ (s : State). s.slots) same) (ap (λ (s : State). s.propagated) same) (c.attach_to.ensures.rest c.self.inside.rest c.self.invariant.1),
    )

pub invariant_of-self-2 : goal.invariant_of-self-2
invariant_of-self-2 c =
    let same = c.list_clauses.ensures.same in (
      search rules,
      rest_same c.attach_to.new.ledger c.list_clauses.new.self c.self.inside.rest (ap (λ (s : State). s.slots) same) (ap (λ (s : State). s.propagated) same) (c.attach_to.ensures.rest c.self.inside.rest c.self.invariant.1),
    )

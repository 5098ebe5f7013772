-- The entries are those of the constraints that are counted, and of the clauses that are watched.
use Rattle.std.proofs.Common.{◌≡◌, ◌<◌, ◌++◌, All, List, Option, ap, length, subst, sym}
use Rattle.normal_form.specs.Normal.{NormalConstraint}
use Rattle.occurrences.specs.declared.occurrence.Occurrence.{Occurrence}
use Rattle.ledger.specs.Ledgers.{State}
use Rattle.occurrences.specs.Rows.{all_in}
use Rattle.ledger.proofs.EntryPlaces.{entries_are, entries_below}
use Rattle.ledger.proofs.ledger.Ledger.entries.Goals as goal

pub returns-clause-places : goal.returns-clause-places
returns-clause-places c =
    let e = c.self.inside in
    let l = c.args.literal in
    let os : List Occurrence = (all_in c.row.result) ++ (all_in c.row-2.result) in
    let are = entries_are e.slots.items e.trail.0 e.trail.1 e.table e.clauses e.counters.items e.limits.items e.watchers.pairs l c.code-number.result (all_in c.row.result) (all_in c.row-2.result) c.self.invariant.0 (subst (λ (s : State). s.listed ≡ length s.slots) (sym c.self.view_is) c.requires) c.code-number.ensures c.row.ensures c.row-2.ensures in
    subst (λ (slots : List (Option NormalConstraint)). All (λ e. e.place < length slots) os) (ap (λ (s : State). s.slots) c.self.view_is)
    (entries_below e.slots.items l os are)

-- Empty lists come to the first table alone.
use Rattle.std.proofs.Common.{◌++◌, List, [], length, get_or, map, ap, sym, ◌∙◌, arith}
use Rattle.std.proofs.lemmas.Result.{on_ok_weaker}
use Rattle.occurrences.specs.declared.occurrence.Occurrence.{Occurrence}
use Rattle.occurrences.specs.declared.occurrence.SmallOccurrence.{SmallOccurrence}
use Rattle.occurrences.specs.Rows.{widened}
use Rattle.occurrences.proofs.JoinedRows.{joined_at, joined_length}
use Rattle.occurrences.proofs.entry_table.EntryTable.widen.Goals as goal

pub returns-clause-kept : goal.returns-clause-kept
returns-clause-kept c k =
    let e = c.self.inside in
    joined_at c.widen.new.self e.rest k (omega (arith, c.self.invariant, c.widen.ensures.longer)) ∙ ap (λ (xs : List SmallOccurrence). map widened xs ++ get_or e.rest k []) (c.widen.ensures.kept k)
    ∙ sym (joined_at e.small e.rest k c.self.invariant) ∙ ap (λ (xs : List (List Occurrence)). get_or xs k []) c.self.view_is

pub returns-clause-longer : goal.returns-clause-longer
returns-clause-longer c =
    let e = c.self.inside in
    omega (arith, ap (length {A = List Occurrence}) c.self.view_is, joined_length e.small e.rest, joined_length c.widen.new.self e.rest, c.widen.ensures.longer)

pub returns-clause-ok : goal.returns-clause-ok
returns-clause-ok c = on_ok_weaker c.widen.result (λ h. omega (arith, h, joined_length c.widen.new.self c.self.inside.rest)) c.widen.ensures.ok

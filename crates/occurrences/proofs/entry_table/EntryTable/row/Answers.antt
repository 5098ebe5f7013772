-- The list is in two parts.
use Rattle.std.proofs.Common.{◌++◌, List, [], get_or, map, ap, sym, ◌∙◌}
use Rattle.occurrences.specs.declared.occurrence.Occurrence.{Occurrence}
use Rattle.occurrences.specs.declared.occurrence.SmallOccurrence.{SmallOccurrence}
use Rattle.occurrences.specs.Rows.{widened}
use Rattle.occurrences.proofs.JoinedRows.{joined_at}
use Rattle.occurrences.proofs.entry_table.EntryTable.row.Goals as goal

pub returns : goal.returns
returns c =
    let e = c.self.inside in
    let number = c.args.number in
    ap (λ (xs : List SmallOccurrence). map widened xs ++ c.row_or_none-2.result.now) c.row_or_none.ensures ∙ ap (λ (xs : List Occurrence). map widened (get_or e.small number []) ++ xs) c.row_or_none-2.ensures
    ∙ sym (joined_at e.small e.rest number c.self.invariant) ∙ ap (λ (xs : List (List Occurrence)). get_or xs number []) c.self.view_is

-- The list of the number is changed, in the table that has its last entry.
use Rattle.std.proofs.Common.{ap, ◌∙◌}
use Rattle.occurrences.specs.Rows.{joined}
use Rattle.occurrences.proofs.JoinedRows.{empty_row, number_below, popped_rest, popped_small, some_below, some_row}
use Rattle.occurrences.proofs.entry_table.EntryTable.pop.Goals as goal

pub pop-requires : goal.pop-requires
pop-requires c = number_below c.self.inside.small c.self.inside.rest c.args.self.now c.args.number c.self.view_is c.requires

pub returns-then-is_empty : goal.returns-then-is_empty
returns-then-is_empty c =
    let e = c.self.inside in
    let none = empty_row e.rest c.args.number c.row_or_none.result.now c.is_empty.result c.row_or_none.ensures c.is_empty.ensures c.if-is_empty.true in
    let low = number_below e.small e.rest c.args.self.now c.args.number c.self.view_is c.requires in
    ap (λ ss. joined ss e.rest) c.pop.ensures ∙ popped_small e.small e.rest c.args.self.now c.args.number c.self.view_is c.self.invariant low none

pub pop-requires-else-is_empty : goal.pop-requires-else-is_empty
pop-requires-else-is_empty c =
    let e = c.self.inside in
    some_below e.rest c.args.number (some_row e.rest c.args.number c.row_or_none.result.now c.is_empty.result c.row_or_none.ensures c.is_empty.ensures c.if-is_empty.false)

pub returns-else-is_empty : goal.returns-else-is_empty
returns-else-is_empty c =
    let e = c.self.inside in
    let some = some_row e.rest c.args.number c.row_or_none.result.now c.is_empty.result c.row_or_none.ensures c.is_empty.ensures c.if-is_empty.false in
    ap (joined e.small) c.pop-else-is_empty.ensures ∙ popped_rest e.small e.rest c.args.self.now c.args.number c.self.view_is c.self.invariant (some_below e.rest c.args.number some) some

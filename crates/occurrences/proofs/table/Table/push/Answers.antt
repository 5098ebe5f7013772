-- The list of the number is changed.
use Rattle.std.proofs.Common.{◌<◌, List, [], ◌∷◌, ◌++◌, length, ap, ◌∙◌, arith}
use Rattle.std.proofs.lemmas.List.{length-map}
use Rattle.occurrences.proofs.Rows.{Row, row_kept, row_changed}
use Rattle.occurrences.proofs.table.Table.push.Goals as goal

pub returns-in-Err-clause-err : goal.returns-in-Err-clause-err
returns-in-Err-clause-err g c =
    let low : c.args.number < length c.self.inside.rows.items = omega (arith, c.requires, ap (length {A = List g.row.E.Denot}) c.self.view_is, length-map c.self.inside.rows.items (λ (v : Row g.row.E.Denot). v.items)) in
    row_kept c.self.inside.rows.items c.args.number c.index_mut.result.now c.push.new.self low c.index_mut.ensures.value c.in-Err.ensures.items ∙ c.self.view_is

pub returns-in-Ok-clause-ok : goal.returns-in-Ok-clause-ok
returns-in-Ok-clause-ok g c =
    let low : c.args.number < length c.self.inside.rows.items = omega (arith, c.requires, ap (length {A = List g.row.E.Denot}) c.self.view_is, length-map c.self.inside.rows.items (λ (v : Row g.row.E.Denot). v.items)) in
    row_changed c.self.inside.rows.items c.args.self.now c.args.number c.index_mut.result.now c.push.new.self (λ (xs : List g.row.E.Denot). xs ++ c.args.entry ∷ []) low c.index_mut.ensures.value c.self.view_is c.in-Ok.ensures.items

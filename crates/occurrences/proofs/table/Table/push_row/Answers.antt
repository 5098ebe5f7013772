-- One list more.
use Rattle.std.proofs.Common.{List, [], ◌∷◌, ◌++◌, ap, ◌∙◌}
use Rattle.std.proofs.lemmas.List.{map_push}
use Rattle.occurrences.proofs.Rows.{Row, rows_of}
use Rattle.occurrences.proofs.table.Table.push_row.Goals as goal

pub returns-in-Err-clause-err : goal.returns-in-Err-clause-err
returns-in-Err-clause-err g c = ap (rows_of {E = g.row.E.Denot}) c.in-Err.ensures.items ∙ c.self.view_is

pub returns-in-Ok-clause-ok : goal.returns-in-Ok-clause-ok
returns-in-Ok-clause-ok g c =
    ap (rows_of {E = g.row.E.Denot}) c.in-Ok.ensures.items ∙ map_push (λ (v : Row g.row.E.Denot). v.items) c.self.inside.rows.items c.args.row
    ∙ ap (λ (xs : List (List g.row.E.Denot)). xs ++ c.args.row.items ∷ []) c.self.view_is

-- The list of the number is another one.
use Rattle.std.proofs.Common.{List, set, ap, ◌∙◌}
use Rattle.occurrences.proofs.Rows.{rows_set}
use Rattle.occurrences.proofs.table.Table.replace.Goals as goal

pub returns : goal.returns
returns g c = rows_set c.self.inside.rows.items c.args.number c.args.row ∙ ap (λ (xs : List (List g.row.E.Denot)). set xs c.args.number c.args.row.items) c.self.view_is

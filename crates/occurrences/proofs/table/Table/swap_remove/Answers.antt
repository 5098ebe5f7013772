-- The list of the number is changed.
use Rattle.std.proofs.Common.{◌≡◌, ◌<◌, List, [], length, get_or, ◌∙◌, ap, arith}
use Rattle.std.proofs.lemmas.List.{length-map}
use Rattle.std.specs.List.{swap_remove}
use Rattle.occurrences.proofs.Rows.{Row, row_at, row_changed}
use Rattle.occurrences.proofs.table.Table.swap_remove.Goals as goal

pub swap_remove-requires : goal.swap_remove-requires
swap_remove-requires g c =
    let low : c.args.number < length c.self.inside.rows.items = omega (arith, c.requires.number, ap (length {A = List g.row.E.Denot}) c.self.view_is, length-map c.self.inside.rows.items (λ (v : Row g.row.E.Denot). v.items)) in
    let row : List g.row.E.Denot = get_or c.args.self.now c.args.number [] in
    let there : c.index_mut.result.now.items ≡ row = row_at c.self.inside.rows.items c.args.number c.index_mut.result.now low c.index_mut.ensures.value ∙ ap (λ (xs : List (List g.row.E.Denot)). get_or xs c.args.number []) c.self.view_is in
    omega (arith, c.requires.index, ap (length {A = g.row.E.Denot}) there, c.index_mut.result.now.ok)

pub returns : goal.returns
returns g c =
    let low : c.args.number < length c.self.inside.rows.items = omega (arith, c.requires.number, ap (length {A = List g.row.E.Denot}) c.self.view_is, length-map c.self.inside.rows.items (λ (v : Row g.row.E.Denot). v.items)) in
    row_changed c.self.inside.rows.items c.args.self.now c.args.number c.index_mut.result.now c.swap_remove.new.self (λ (xs : List g.row.E.Denot). swap_remove xs c.args.index c.swap_remove.result) low c.index_mut.ensures.value c.self.view_is c.swap_remove.ensures.items

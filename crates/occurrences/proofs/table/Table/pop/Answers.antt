-- The list of the number is changed.
use Rattle.std.proofs.Common.{◌≡◌, ℕ, ◌<◌, ◌-◌, List, length, take, ap, ◌∙◌, arith}
use Rattle.std.proofs.lemmas.List.{length-map}
use Rattle.occurrences.proofs.Rows.{Row, row_changed}
use Rattle.occurrences.proofs.table.Table.pop.Goals as goal

pub returns : goal.returns
returns g c =
    let low : c.args.number < length c.self.inside.rows.items = omega (arith, c.requires, ap (length {A = List g.row.E.Denot}) c.self.view_is, length-map c.self.inside.rows.items (λ (v : Row g.row.E.Denot). v.items)) in
    let rest : c.pop.new.self.items ≡ take (length c.index_mut.result.now.items - 1) c.index_mut.result.now.items = c.pop.ensures.rest ∙ ap (λ (n : ℕ). take (n - 1) c.index_mut.result.now.items) (omega (arith, c.index_mut.result.now.ok)) in
    row_changed c.self.inside.rows.items c.args.self.now c.args.number c.index_mut.result.now c.pop.new.self (λ (xs : List g.row.E.Denot). take (length xs - 1) xs) low c.index_mut.ensures.value c.self.view_is rest

-- The offset has the place in the row.
use Rattle.std.proofs.Common.{◌∙◌, Some, cond, ap}
use Rattle.std.specs.BTreeMap.{is_at}
use Rattle.std.specs.Ordering.{nat_cmp}
use Rattle.places.specs.Places.{place_of}
use Rattle.places.proofs.PlacedRows.{Entries, given_at}
use Rattle.places.proofs.places.Places.insert.Goals as goal

pub returns-in-Ok-clause-given : goal.returns-in-Ok-clause-given
returns-in-Ok-clause-given c q =
    (given_at c.make_room.new.rows.items c.index_mut.result.now c.insert.new.self c.args.id c.row_of-row.result c.offset_of.result (Some c.args.place) c.row_of-row.ensures c.offset_of.ensures
    (c.in_ok-make_room.ensures.are_rows c.self.invariant.1) c.in_ok-make_room.ensures.long c.index_mut.ensures.value c.in-Ok.ensures.given).1 q
    ∙ ap (λ (es : Entries). cond (is_at (nat_cmp c.args.id) q) (Some c.args.place) (place_of es q)) (c.in_ok-make_room.ensures.same 0 ∙ c.self.view_is)

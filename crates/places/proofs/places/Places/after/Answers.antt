-- One row after another.
use Rattle.std.proofs.Common.{◌≡◌, ◌<◌, ◌+◌, ◌*◌, ℕ, None, length, subst, arith}
use Rattle.places.specs.Places.{IsNextPlaced, place_of}
use Rattle.places.proofs.PlacedRows.{Entries, found_above, in_its_row, none_above, none_in_row}
use Rattle.places.proofs.places.Places.after.Goals as goal

pub overflow_add-result : goal.overflow_add-result
overflow_add-result c =
    let rows = c.self.inside.rows in
    let there : c.loop-row.row < length rows.items = omega (arith, c.loop-row-test.true, c.len-row-end.ensures, rows.ok) in
    let short = in_its_row rows.items c.self.invariant.1 c.loop-row.row c.loop-row.offset c.in-Some.next c.index.result.now there c.index.ensures c.in-Some.ensures in
    omega (arith, there, short, c.self.invariant.0)

pub overflow_cast-result : goal.overflow_cast-result
overflow_cast-result c =
    let rows = c.self.inside.rows in
    let there : c.loop-row.row < length rows.items = omega (arith, c.loop-row-test.true, c.len-row-end.ensures, rows.ok) in
    let short = in_its_row rows.items c.self.invariant.1 c.loop-row.row c.loop-row.offset c.in-Some.next c.index.result.now there c.index.ensures c.in-Some.ensures in
    omega (arith, there, short, c.self.invariant.0)

pub returns-in-Some : goal.returns-in-Some
returns-in-Some c =
    let rows = c.self.inside.rows in
    let there : c.loop-row.row < length rows.items = omega (arith, c.loop-row-test.true, c.len-row-end.ensures, rows.ok) in
    subst (λ (es : Entries). IsNextPlaced es c.args.id (1024 * c.loop-row.row + c.in-Some.next)) c.self.view_is
    (found_above rows.items c.self.invariant.1 c.args.id c.loop-row.row c.loop-row.offset c.in-Some.next c.index.result.now there c.index.ensures c.in-Some.ensures c.loop-row.invariant.low c.loop-row.invariant.none)

pub loop-row-preserved : goal.loop-row-preserved
loop-row-preserved c =
    let rows = c.self.inside.rows in
    let there : c.loop-row.row < length rows.items = omega (arith, c.loop-row-test.true, c.len-row-end.ensures, rows.ok) in
    record {
      low = omega (arith, c.loop-row.invariant.low, c.loop-row.invariant.short);
      short = omega arith;
      none = none_in_row rows.items c.self.invariant.1 c.args.id c.loop-row.row c.loop-row.offset c.index.result.now there c.index.ensures c.in_default.ensures c.loop-row.invariant.none;
    }

pub returns : goal.returns
returns c =
    let rows = c.self.inside.rows in
    subst (λ (es : Entries). (k : ℕ) → c.args.id < k → place_of es k ≡ None) c.self.view_is
    (none_above rows.items c.self.invariant.1 c.args.id c.loop-row.row c.loop-row.offset (omega (arith, c.loop-row-test.false, c.len-row-end.ensures, rows.ok)) c.loop-row.invariant.none)

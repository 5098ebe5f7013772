-- The place of the offset in the row.
use Rattle.std.proofs.Common.{◌≡◌, ◌∙◌, ℕ, List, None, ap, subst, sym, arith}
use Rattle.places.specs.Places.{place_of}
use Rattle.places.proofs.PlacedRows.{beyond_rows, row_at_has}
use Rattle.places.proofs.places.Places.get.Goals as goal

pub returns-then-len-row : goal.returns-then-len-row
returns-then-len-row c =
    let rows = c.self.inside.rows in
    sym (subst (λ (es : List (ℕ × ℕ)). place_of es c.args.id ≡ None) c.self.view_is
    (beyond_rows rows.items c.self.invariant.1 c.args.id (omega (arith, c.if-len-row.true, c.len.ensures, rows.ok, c.row_of-row.ensures))))

pub returns : goal.returns
returns c =
    let rows = c.self.inside.rows in
    c.get.ensures
    ∙ row_at_has rows.items c.index.result.now c.args.id c.row_of-row.result c.offset_of.result c.row_of-row.ensures c.offset_of.ensures c.self.invariant.1
    (omega (arith, c.if-len-row.false, c.len.ensures, rows.ok)) c.index.ensures
    ∙ ap (λ (es : List (ℕ × ℕ)). place_of es c.args.id) c.self.view_is

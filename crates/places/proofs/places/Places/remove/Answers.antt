-- The offset has no place in the row from then on.
use Rattle.std.proofs.Common.{◌≡◌, ◌∙◌, List, None, cond, length, ap, subst, sym, arith}
use Rattle.std.specs.BTreeMap.{is_at}
use Rattle.std.specs.Ordering.{nat_cmp}
use Rattle.std.proofs.lemmas.List.{length-set}
use Rattle.places.specs.Places.{place_of}
use Rattle.places.specs.Placed.{AreRows, rows_from}
use Rattle.places.proofs.PlacedRows.{Entries, beyond_rows, given_at, nothing_taken, row_at_has}
use Rattle.places.proofs.places.Places.remove.Goals as goal

pub returns-then-len-row-clause-value : goal.returns-then-len-row-clause-value
returns-then-len-row-clause-value c =
    let rows = c.self.inside.rows in
    sym (subst (λ (es : Entries). place_of es c.args.id ≡ None) c.self.view_is
    (beyond_rows rows.items c.self.invariant.1 c.args.id (omega (arith, c.if-len-row.true, c.len.ensures, rows.ok, c.row_of-row.ensures))))

pub returns-then-len-row-clause-taken : goal.returns-then-len-row-clause-taken
returns-then-len-row-clause-taken c q =
    let rows = c.self.inside.rows in
    nothing_taken c.args.self.now c.args.id (subst (λ (es : Entries). place_of es c.args.id ≡ None) c.self.view_is
    (beyond_rows rows.items c.self.invariant.1 c.args.id (omega (arith, c.if-len-row.true, c.len.ensures, rows.ok, c.row_of-row.ensures)))) q

pub invariant_of-self : goal.invariant_of-self
invariant_of-self c =
    let rows = c.self.inside.rows in
    let given = given_at rows.items c.index_mut.result.now c.remove-place.new.self c.args.id c.row_of-row.result c.offset_of.result None c.row_of-row.ensures c.offset_of.ensures c.self.invariant.1
    (omega (arith, c.if-len-row.false, c.len.ensures, rows.ok)) c.index_mut.ensures.value c.remove-place.ensures.taken in (
      omega (arith, c.self.invariant.0, ap (length {A = Entries}) c.leave.ensures, length-set rows.items c.row_of-row.result c.remove-place.new.self),
      subst AreRows (sym c.leave.ensures) given.0,
    )

pub returns-clause-value : goal.returns-clause-value
returns-clause-value c =
    let rows = c.self.inside.rows in
    c.remove-place.ensures.value
    ∙ row_at_has rows.items c.index_mut.result.now c.args.id c.row_of-row.result c.offset_of.result c.row_of-row.ensures c.offset_of.ensures c.self.invariant.1
    (omega (arith, c.if-len-row.false, c.len.ensures, rows.ok)) c.index_mut.ensures.value
    ∙ ap (λ (es : Entries). place_of es c.args.id) c.self.view_is

pub returns-clause-taken : goal.returns-clause-taken
returns-clause-taken c q =
    let rows = c.self.inside.rows in
    let given = given_at rows.items c.index_mut.result.now c.remove-place.new.self c.args.id c.row_of-row.result c.offset_of.result None c.row_of-row.ensures c.offset_of.ensures c.self.invariant.1
    (omega (arith, c.if-len-row.false, c.len.ensures, rows.ok)) c.index_mut.ensures.value c.remove-place.ensures.taken in
    ap (λ (rs : List Entries). place_of (rows_from 0 rs) q) c.leave.ensures ∙ given.1 q ∙ ap (λ (es : Entries). cond (is_at (nat_cmp c.args.id) q) None (place_of es q)) c.self.view_is

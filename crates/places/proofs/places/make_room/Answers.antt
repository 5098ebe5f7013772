-- A row without a place changes nothing.
use Rattle.std.proofs.Common.{◌≡◌, ◌∙◌, ◌++◌, ◌+◌, ◌∷◌, [], length, length-append, ap, arith, inr, subst, sym}
use Rattle.places.specs.Placed.{AreRows, rows_from}
use Rattle.places.proofs.PlacedRows.{Entries, are_one_more, one_row_more}
use Rattle.places.proofs.places.make_room.Goals as goal

pub loop-alloc-preserved : goal.loop-alloc-preserved
loop-alloc-preserved c =
    let more : c.leave.new.rows.items ≡ c.loop-alloc.rows.items ++ [] ∷ [] = c.leave.ensures ∙ c.in_ok-push.ensures.items ∙ ap (λ (r : Entries). c.loop-alloc.rows.items ++ r ∷ []) c.new.ensures in (
      λ first. ap (rows_from first) more ∙ one_row_more first c.loop-alloc.rows.items ∙ c.loop-alloc.invariant.0 first,
      λ are. subst AreRows (sym more) (are_one_more c.loop-alloc.rows.items (c.loop-alloc.invariant.1 are)),
      inr (omega (arith, ap (length {A = Entries}) more, length-append c.loop-alloc.rows.items ([] ∷ []), c.loop-alloc-test.true, c.len.ensures, c.loop-alloc.rows.ok)),
    )

pub loop-alloc-smaller : goal.loop-alloc-smaller
loop-alloc-smaller c =
    let longer : length c.leave.new.rows.items ≡ length c.loop-alloc.rows.items + 1 = ap (length {A = Entries}) (c.leave.ensures ∙ c.in_ok-push.ensures.items) ∙ length-append c.loop-alloc.rows.items (c.new.result ∷ []) in
    omega (arith, longer, c.loop-alloc-test.true, c.len.ensures, c.loop-alloc.rows.ok)

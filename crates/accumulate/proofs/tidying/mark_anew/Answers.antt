-- Each step asks the next variable, and at the end all were asked.
use Rattle.std.proofs.Common.{◌≡◌, ◌∙◌, ℕ, List, length, ap, arith, sym, subst}
use Rattle.std.specs.List.{filter, range_with_len}
use Rattle.accumulate.specs.Nets.{AreTidy, is_live}
use Rattle.accumulate.proofs.AskedAll.{asked_all, asked_more}
use Rattle.accumulate.proofs.tidying.mark_anew.Goals as goal

pub loop-place-preserved : goal.loop-place-preserved
loop-place-preserved c = record {
  marks = c.mark_live.ensures.marks ∙ asked_more c.args.nets.now.items c.loop-place.touched.items c.loop-place.place c.loop-place.invariant.marks;
  fewer = omega (arith, c.mark_live.ensures.more, c.loop-place.invariant.fewer);
  room = omega (arith, c.mark_live.ensures.room, c.loop-place.invariant.room);
}

pub returns-clause-tidy : goal.returns-clause-tidy
returns-clause-tidy c =
    let ns = c.args.nets.now.items in
    let end : c.loop-place.place ≡ length ns = omega (arith, c.loop-place-test.false, c.len-place-end.ensures, c.loop-place.auto.place-end) in
    let all : c.loop-place.touched.items ≡ filter (is_live ns) (range_with_len 0 (length ns)) = c.loop-place.invariant.marks ∙ ap (λ (n : ℕ). filter (is_live ns) (range_with_len 0 n)) end in
    subst (λ (xs : List ℕ). AreTidy xs ns) (sym all) (asked_all ns)

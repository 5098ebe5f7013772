-- The next mark in order is that of the next cell which is not 0.
use Rattle.std.proofs.Common.{◌≡◌, ℕ, zero, suc, refl, ◌+◌, ◌<◌, ◌≤◌, List, length, slice_index_or, slice_set, ap, ◌∙◌, arith, to_z, of_z, Vec, Global}
use mir.Syntax.{w128}
use Rattle.std.specs.Prelude.{ℤ, pos, unsigned_abs}
use Rattle.normal_form.specs.Normal.{largest_sum}
use Rattle.accumulate.specs.Nets.{IsAhead, scaled, sizes}
use Rattle.accumulate.proofs.Scaled.{all_scaled, all_summed, cell_made, cell_read, next_small, none_between, part_below, scaled_as, scaled_more, scaled_small, scales_less, size_at, still_ahead, sum_within, zero_stays}
use Rattle.accumulate.proofs.scaling.scale_all.Goals as goal
use Rattle.accumulate.proofs.scaling.scale_all.Goals.{then-next-place, else-next-place}

pub scaled-size-requires : goal.scaled-size-requires
scaled-size-requires c =
    let read = cell_read (scaled c.args.scaling) c.loop-var.next (slice_index_or c.deref-var-items.result.now c.loop-var.var-index 0) c.args.nets.now.items c.loop-var.nets.items c.loop-var.sum c.index-net.result.now c.if-next-place.true (omega (arith, c.requires.marks.room c.loop-var.var-index 0 (omega (arith, c.loop-var-test.true, ap length c.deref-var-items.ensures.value)), ap (λ (xs : List ℕ). slice_index_or xs c.loop-var.var-index 0) c.deref-var-items.ensures.value)) c.index-net.ensures c.requires.small c.loop-var.invariant.below in
    scales_less c.args.scaling c.unsigned_abs.result (sizes c.args.nets.now.items) (omega (arith, c.unsigned_abs.ensures.value, ap unsigned_abs (read.1), read.2)) c.requires.within

pub with_size-requires : goal.with_size-requires
with_size-requires c =
    let read = cell_read (scaled c.args.scaling) c.loop-var.next (slice_index_or c.deref-var-items.result.now c.loop-var.var-index 0) c.args.nets.now.items c.loop-var.nets.items c.loop-var.sum c.index-net.result.now c.if-next-place.true (omega (arith, c.requires.marks.room c.loop-var.var-index 0 (omega (arith, c.loop-var-test.true, ap length c.deref-var-items.ensures.value)), ap (λ (xs : List ℕ). slice_index_or xs c.loop-var.var-index 0) c.deref-var-items.ensures.value)) c.index-net.ensures c.requires.small c.loop-var.invariant.below in
    let less : c.unsigned_abs.result ≤ sizes c.args.nets.now.items = omega (arith, c.unsigned_abs.ensures.value, ap unsigned_abs (read.1), read.2) in
    omega (arith, c.scaled-size.ensures, scaled_small c.args.scaling c.unsigned_abs.result (omega (arith, less, c.requires.small)) (scales_less c.args.scaling c.unsigned_abs.result (sizes c.args.nets.now.items) less c.requires.within))

pub overflow_add-sum : goal.overflow_add-sum
overflow_add-sum c =
    let read = cell_read (scaled c.args.scaling) c.loop-var.next (slice_index_or c.deref-var-items.result.now c.loop-var.var-index 0) c.args.nets.now.items c.loop-var.nets.items c.loop-var.sum c.index-net.result.now c.if-next-place.true (omega (arith, c.requires.marks.room c.loop-var.var-index 0 (omega (arith, c.loop-var-test.true, ap length c.deref-var-items.ensures.value)), ap (λ (xs : List ℕ). slice_index_or xs c.loop-var.var-index 0) c.deref-var-items.ensures.value)) c.index-net.ensures c.requires.small c.loop-var.invariant.below in
    let size : c.scaled-size.result ≡ scaled c.args.scaling (unsigned_abs (slice_index_or c.args.nets.now.items (slice_index_or c.deref-var-items.result.now c.loop-var.var-index 0) (pos 0))) = c.scaled-size.ensures ∙ ap (scaled c.args.scaling) (c.unsigned_abs.ensures.value ∙ ap unsigned_abs (read.1)) in
    let gap : (v : ℕ) → c.loop-var.next ≤ v → v < (slice_index_or c.deref-var-items.result.now c.loop-var.var-index 0) → unsigned_abs (slice_index_or c.args.nets.now.items v (pos 0)) ≡ 0 = λ v p q. none_between c.loop-var.var-index c.loop-var.next c.args.touched.now.items c.args.nets.now.items c.requires.order c.loop-var.invariant.ahead v p (omega (arith, q, ap (λ (xs : List ℕ). slice_index_or xs c.loop-var.var-index 0) c.deref-var-items.ensures.value)) in
    omega (
      arith,
      next_small (scaled c.args.scaling) (zero_stays c.args.scaling (sizes c.args.nets.now.items) c.requires.within) c.loop-var.next (slice_index_or c.deref-var-items.result.now c.loop-var.var-index 0) c.args.nets.now.items c.loop-var.nets.items c.loop-var.sum c.scaled-size.result c.if-next-place.true (omega (arith, c.requires.marks.room c.loop-var.var-index 0 (omega (arith, c.loop-var-test.true, ap length c.deref-var-items.ensures.value)), ap (λ (xs : List ℕ). slice_index_or xs c.loop-var.var-index 0) c.deref-var-items.ensures.value)) gap size c.loop-var.invariant.below,
      sum_within c.args.scaling c.args.nets.now.items c.requires.small c.requires.within,
    )

pub loop-var-preserved : goal.loop-var-preserved
loop-var-preserved c = elim c.if-next-place.branch [
  | then-next-place w ↦
      let at : (slice_index_or c.deref-var-items.result.now c.loop-var.var-index 0) ≡ slice_index_or c.args.touched.now.items c.loop-var.var-index 0 = ap (λ (xs : List ℕ). slice_index_or xs c.loop-var.var-index 0) c.deref-var-items.ensures.value in
      let read = cell_read (scaled c.args.scaling) c.loop-var.next (slice_index_or c.deref-var-items.result.now c.loop-var.var-index 0) c.args.nets.now.items c.loop-var.nets.items c.loop-var.sum w.index-net.result.now w.if-next-place.true (omega (arith, c.requires.marks.room c.loop-var.var-index 0 (omega (arith, c.loop-var-test.true, ap length c.deref-var-items.ensures.value)), ap (λ (xs : List ℕ). slice_index_or xs c.loop-var.var-index 0) c.deref-var-items.ensures.value)) w.index-net.ensures c.requires.small c.loop-var.invariant.below in
      let size : w.scaled-size.result ≡ scaled c.args.scaling (unsigned_abs (slice_index_or c.args.nets.now.items (slice_index_or c.deref-var-items.result.now c.loop-var.var-index 0) (pos 0))) = w.scaled-size.ensures ∙ ap (scaled c.args.scaling) (w.unsigned_abs.ensures.value ∙ ap unsigned_abs (read.1)) in
      let small : w.scaled-size.result ≤ largest_sum = omega (arith, size, scaled_small c.args.scaling (unsigned_abs (slice_index_or c.args.nets.now.items (slice_index_or c.deref-var-items.result.now c.loop-var.var-index 0) (pos 0))) (omega (arith, read.2, c.requires.small)) (scales_less c.args.scaling (unsigned_abs (slice_index_or c.args.nets.now.items (slice_index_or c.deref-var-items.result.now c.loop-var.var-index 0) (pos 0))) (sizes c.args.nets.now.items) (read.2) c.requires.within)) in
      let gap : (v : ℕ) → c.loop-var.next ≤ v → v < (slice_index_or c.deref-var-items.result.now c.loop-var.var-index 0) → unsigned_abs (slice_index_or c.args.nets.now.items v (pos 0)) ≡ 0 = λ v p q. none_between c.loop-var.var-index c.loop-var.next c.args.touched.now.items c.args.nets.now.items c.requires.order c.loop-var.invariant.ahead v p (omega (arith, q, ap (λ (xs : List ℕ). slice_index_or xs c.loop-var.var-index 0) c.deref-var-items.ensures.value)) in
      record {
        below = scaled_as (scaled c.args.scaling) ((slice_index_or c.deref-var-items.result.now c.loop-var.var-index 0) + 1) c.if-next-place.next c.args.nets.now.items (slice_set c.loop-var.nets.items (slice_index_or c.deref-var-items.result.now c.loop-var.var-index 0) (to_z w128 (of_z w128 w.with_size.result))) c.if-next-place.nets.items (c.loop-var.sum + w.scaled-size.result) c.if-next-place.sum w.next-is (ap (λ (n : Vec ℤ Global). n.items) w.nets-is) w.sum-is
            (scaled_more (scaled c.args.scaling) (zero_stays c.args.scaling (sizes c.args.nets.now.items) c.requires.within) c.loop-var.next (slice_index_or c.deref-var-items.result.now c.loop-var.var-index 0) c.args.nets.now.items c.loop-var.nets.items c.loop-var.sum w.scaled-size.result (to_z w128 (of_z w128 w.with_size.result)) w.if-next-place.true (omega (arith, c.requires.marks.room c.loop-var.var-index 0 (omega (arith, c.loop-var-test.true, ap length c.deref-var-items.ensures.value)), ap (λ (xs : List ℕ). slice_index_or xs c.loop-var.var-index 0) c.deref-var-items.ensures.value)) gap
            (cell_made (scaled c.args.scaling) w.scaled-size.result (to_z w128 (of_z w128 w.index-net.result.now)) (slice_index_or c.args.nets.now.items (slice_index_or c.deref-var-items.result.now c.loop-var.var-index 0) (pos 0)) w.with_size.result (read.1) size small w.with_size.ensures.value)
            size c.loop-var.invariant.below);
        ahead = λ v p h. still_ahead c.loop-var.var-index c.args.touched.now.items v (c.loop-var.invariant.ahead v (omega (arith, p, w.next-is, w.if-next-place.true)) h) (omega (arith, p, w.next-is, at));
      }
  | else-next-place w ↦ record {
    below = scaled_as (scaled c.args.scaling) c.loop-var.next c.if-next-place.next c.args.nets.now.items c.loop-var.nets.items c.if-next-place.nets.items c.loop-var.sum c.if-next-place.sum w.next-is (ap (λ (n : Vec ℤ Global). n.items) w.nets-is) w.sum-is c.loop-var.invariant.below;
    ahead = λ v p h. still_ahead c.loop-var.var-index c.args.touched.now.items v (c.loop-var.invariant.ahead v (omega (arith, p, w.next-is)) h) (omega (arith, p, w.next-is, w.if-next-place.false, ap (λ (xs : List ℕ). slice_index_or xs c.loop-var.var-index 0) c.deref-var-items.ensures.value));
  }
]

rest : (i : ℕ) (marks : List ℕ) (v n : ℕ) → length marks ≤ i → (0 < n → IsAhead i marks v) → n ≡ 0
rest i marks v zero done ahead = refl
rest i marks v (suc n) done ahead =
    let a : IsAhead i marks v = ahead (omega arith) in
    absurd (omega (arith, a.1, a.2, done))

pub returns-clause-scaled : goal.returns-clause-scaled
returns-clause-scaled c = all_scaled (scaled c.args.scaling) (zero_stays c.args.scaling (sizes c.args.nets.now.items) c.requires.within) c.loop-var.next c.args.nets.now.items c.loop-var.nets.items c.loop-var.sum
    (λ v p. rest c.loop-var.var-index c.args.touched.now.items v (unsigned_abs (slice_index_or c.args.nets.now.items v (pos 0))) (omega (arith, c.loop-var-test.false, ap length c.deref-var-items.ensures.value)) (c.loop-var.invariant.ahead v p))
    c.loop-var.invariant.below

pub returns-clause-sum : goal.returns-clause-sum
returns-clause-sum c = all_summed (scaled c.args.scaling) (zero_stays c.args.scaling (sizes c.args.nets.now.items) c.requires.within) c.loop-var.next c.args.nets.now.items c.loop-var.nets.items c.loop-var.sum
    (λ v p. rest c.loop-var.var-index c.args.touched.now.items v (unsigned_abs (slice_index_or c.args.nets.now.items v (pos 0))) (omega (arith, c.loop-var-test.false, ap length c.deref-var-items.ensures.value)) (c.loop-var.invariant.ahead v p))
    c.loop-var.invariant.below

pub returns-clause-small : goal.returns-clause-small
returns-clause-small c = omega (arith, c.loop-var.invariant.below.sum, part_below (size_at (scaled c.args.scaling) c.args.nets.now.items) c.loop-var.next (length c.args.nets.now.items) c.loop-var.invariant.below.room, sum_within c.args.scaling c.args.nets.now.items c.requires.small c.requires.within)

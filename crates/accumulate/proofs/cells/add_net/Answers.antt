-- One cell changes.
use Rattle.std.proofs.Common.{List, ap, ◌≡◌, ℕ, ◌<◌, ◌≤◌, ◌+◌, ◌-◌, ◌^◌, ℤ, ◌+ℤ◌, unsigned_abs, length, arith, to_z, of_z, FitsSigned, slice_index_or, slice_set, ◌∙◌}
use mir.Syntax.{w128}
use Rattle.std.proofs.lemmas.Int.{ints}
use Rattle.normal_form.specs.Normal.{largest_sum}
use Rattle.accumulate.specs.Nets.{sizes}
use Rattle.accumulate.proofs.Marks.{marked_set}
use Rattle.accumulate.proofs.NetTerms.{size_below, set_sizes, cell_gives}
use Rattle.accumulate.proofs.cells.add_net.Goals as goal
use Rattle.accumulate.proofs.cells.add_net.Goals.{After-unsigned_abs-2}

-- the new net coefficient as the code has it
abbrev after_of : ℤ → ℤ → ℤ
after_of b n = to_z w128 (of_z w128 (to_z w128 (of_z w128 b) +ℤ to_z w128 (of_z w128 n)))

after_is : (b n : ℤ) → unsigned_abs b ≤ 2 ^ 122 → unsigned_abs n ≤ largest_sum → after_of b n ≡ b +ℤ n
after_is b n h k = omega (arith, ints, h, k)

after_fits : (b n : ℤ) → unsigned_abs b ≤ 2 ^ 122 → unsigned_abs n ≤ largest_sum → FitsSigned w128 (to_z w128 (of_z w128 b) +ℤ to_z w128 (of_z w128 n))
after_fits b n h k = omega (arith, ints, h, k)

before_size : (b : ℤ) (all : ℕ) (ns : List ℤ) (i : ℕ) → i < length ns → b ≡ slice_index_or ns i b → all ≡ sizes ns → unsigned_abs b ≤ all
before_size b all ns i h e s = omega (arith, size_below ns i b h, ap unsigned_abs e, s)

-- what holds of the sizes, over plain variables
totals : (all cells was is : ℕ) (b n after : ℤ) → all ≡ cells → was ≡ unsigned_abs b → unsigned_abs b ≤ all → is ≡ unsigned_abs after → after ≡ b +ℤ n → (new : ℕ) → new + unsigned_abs b ≡ cells + unsigned_abs after → (all - was + is ≡ new) × (all - was + is ≤ all + unsigned_abs n)
totals all cells was is b n after e f g h k new m = (omega (arith, e, f, g, h, m), omega (arith, ints, e, f, g, h, k, m))

pub overflow_add-after : goal.overflow_add-after
overflow_add-after c = after_fits c.index-before.result.now c.args.net (omega (arith, before_size c.index-before.result.now c.args.sum c.args.nets.now.items (c.args.var.0) c.requires.room c.index-before.ensures c.requires.sum, c.requires.small)) c.requires.size

back : (b : ℤ) → unsigned_abs b ≤ 2 ^ 122 → to_z w128 (of_z w128 b) ≡ b
back b h = omega (arith, ints, h)

pub overflow_sub-result : goal.overflow_sub-result
overflow_sub-result c =
    let size : unsigned_abs c.index-before.result.now ≤ c.args.sum = before_size c.index-before.result.now c.args.sum c.args.nets.now.items (c.args.var.0) c.requires.room c.index-before.ensures c.requires.sum in
    let same : unsigned_abs (to_z w128 (of_z w128 c.index-before.result.now)) ≡ unsigned_abs c.index-before.result.now = ap unsigned_abs (back c.index-before.result.now (omega (arith, size, c.requires.small))) in
    omega (arith, size, same, c.unsigned_abs.ensures.value)

after_as : (c : After-unsigned_abs-2) → after_of c.index-before.result.now c.args.net ≡ c.index-before.result.now +ℤ c.args.net
after_as c =
    let size : unsigned_abs c.index-before.result.now ≤ c.args.sum = before_size c.index-before.result.now c.args.sum c.args.nets.now.items (c.args.var.0) c.requires.room c.index-before.ensures c.requires.sum in
    after_is c.index-before.result.now c.args.net (omega (arith, size, c.requires.small)) c.requires.size

pub returns-clause-gives : goal.returns-clause-gives
returns-clause-gives c set = cell_gives set c.args.nets.now.items (c.args.var.0) c.index-before.result.now c.args.net (after_of c.index-before.result.now c.args.net) c.requires.room c.index-before.ensures (after_as c)

both : (c : After-unsigned_abs-2) → (c.args.sum - c.unsigned_abs.result + c.unsigned_abs-2.result ≡ sizes (slice_set c.args.nets.now.items (c.args.var.0) (after_of c.index-before.result.now c.args.net))) × (c.args.sum - c.unsigned_abs.result + c.unsigned_abs-2.result ≤ c.args.sum + unsigned_abs c.args.net)
both c =
    let b : ℤ = c.index-before.result.now in
    let after : ℤ = after_of c.index-before.result.now c.args.net in
    let size : unsigned_abs c.index-before.result.now ≤ c.args.sum = before_size c.index-before.result.now c.args.sum c.args.nets.now.items (c.args.var.0) c.requires.room c.index-before.ensures c.requires.sum in
    let same : unsigned_abs (to_z w128 (of_z w128 c.index-before.result.now)) ≡ unsigned_abs c.index-before.result.now = ap unsigned_abs (back c.index-before.result.now (omega (arith, size, c.requires.small))) in
    let old : unsigned_abs c.index-before.result.now ≡ unsigned_abs (slice_index_or c.args.nets.now.items (c.args.var.0) c.index-before.result.now) = ap unsigned_abs c.index-before.ensures in
    let step : sizes (slice_set c.args.nets.now.items (c.args.var.0) after) + unsigned_abs (slice_index_or c.args.nets.now.items (c.args.var.0) b) ≡ sizes c.args.nets.now.items + unsigned_abs after = set_sizes c.args.nets.now.items (c.args.var.0) after b c.requires.room in
    totals c.args.sum (sizes c.args.nets.now.items) c.unsigned_abs.result c.unsigned_abs-2.result b c.args.net after c.requires.sum (c.unsigned_abs.ensures.value ∙ same) size c.unsigned_abs-2.ensures.value (after_as c) (sizes (slice_set c.args.nets.now.items (c.args.var.0) after)) (omega (arith, step, old))

pub returns-clause-sum : goal.returns-clause-sum
returns-clause-sum c = (both c).0

pub returns-clause-small : goal.returns-clause-small
returns-clause-small c = (both c).1

pub returns-clause-marks : goal.returns-clause-marks
returns-clause-marks c level marks h m = marked_set level marks c.args.nets.now.items (c.args.var.0) (after_of c.index-before.result.now c.args.net) h m

-- A cell becomes smaller in size, or stays.
use Rattle.std.proofs.Common.{◌≡◌, ◌≤◌, get_or, ap, ◌∙◌, arith, to_z, of_z}
use mir.Syntax.{w128}
use Rattle.std.specs.Prelude.{ℤ, pos, unsigned_abs}
use Rattle.accumulate.proofs.Coefficients.{defaulted}
use Rattle.accumulate.proofs.Levels.{marked_smaller}
use Rattle.accumulate.proofs.CappedCells.{cell_size, set_sum, smaller_cell, whole}
use Rattle.accumulate.proofs.capping.cap_cell.Goals as goal

pub capped-after-requires : goal.capped-after-requires
capped-after-requires c =
    let small : unsigned_abs c.index-before.result.now ≤ c.args.sum = cell_size c.args.nets.now.items c.args.place c.args.sum c.index-before.result.now c.requires.place c.index-before.ensures c.requires.sum in
    omega (arith, small, c.requires.small, ap unsigned_abs (whole c.index-before.result.now (omega (arith, small, c.requires.small))))

pub overflow_sub-result : goal.overflow_sub-result
overflow_sub-result c =
    let small : unsigned_abs c.index-before.result.now ≤ c.args.sum = cell_size c.args.nets.now.items c.args.place c.args.sum c.index-before.result.now c.requires.place c.index-before.ensures c.requires.sum in
    omega (arith, small, c.unsigned_abs.ensures.value, ap unsigned_abs (whole c.index-before.result.now (omega (arith, small, c.requires.small))))

pub returns-clause-sum : goal.returns-clause-sum
returns-clause-sum c =
    let old : ℤ = c.index-before.result.now in
    let small : unsigned_abs old ≤ c.args.sum = cell_size c.args.nets.now.items c.args.place c.args.sum old c.requires.place c.index-before.ensures c.requires.sum in
    let before : c.unsigned_abs.result ≡ unsigned_abs old = c.unsigned_abs.ensures.value ∙ ap unsigned_abs (whole old (omega (arith, small, c.requires.small))) in
    set_sum c.args.nets.now.items c.args.place c.args.sum c.unsigned_abs.result c.unsigned_abs-2.result old (to_z w128 (of_z w128 c.capped-after.result)) c.requires.place c.index-before.ensures c.requires.sum before c.unsigned_abs-2.ensures.value

pub returns-clause-less : goal.returns-clause-less
returns-clause-less c =
    let old : ℤ = c.index-before.result.now in
    let small : unsigned_abs old ≤ c.args.sum = cell_size c.args.nets.now.items c.args.place c.args.sum old c.requires.place c.index-before.ensures c.requires.sum in
    let smaller = smaller_cell c.args.most c.args.sum old c.capped-after.result small c.requires.small c.capped-after.ensures in
    omega (arith, small, smaller.0, smaller.1, c.unsigned_abs.ensures.value, c.unsigned_abs-2.ensures.value)

pub returns-clause-marks : goal.returns-clause-marks
returns-clause-marks c level marks m =
    let old : ℤ = c.index-before.result.now in
    let after : ℤ = c.capped-after.result in
    let small : unsigned_abs old ≤ c.args.sum = cell_size c.args.nets.now.items c.args.place c.args.sum old c.requires.place c.index-before.ensures c.requires.sum in
    let smaller = smaller_cell c.args.most c.args.sum old after small c.requires.small c.capped-after.ensures in
    let here : unsigned_abs old ≡ unsigned_abs (get_or c.args.nets.now.items c.args.place (pos 0)) = ap unsigned_abs (c.index-before.ensures ∙ defaulted c.args.nets.now.items c.args.place old (pos 0) c.requires.place) in
    marked_smaller level marks c.args.nets.now.items c.args.place (to_z w128 (of_z w128 after)) c.requires.place (omega (arith, smaller.1, here)) m

use Rattle.std.proofs.Common.{◌+◌, ◌<◌, drop, length, ap, subst, ◌∙◌, slice_index_or, [], false, arith}
use Rattle.checker.specs.Printed.{with_value, with_values}
use Rattle.checker.proofs.ValueLine.{value_next}
use Rattle.checker.proofs.lines.write_values.Goals as goal

pub loop-number-preserved : goal.loop-number-preserved
loop-number-preserved c =
    let names = c.args.names.now in
    let values = c.args.values.now in
    let i = c.loop-number.number in
    let inside : i < length values = subst (λ vs. i < length vs) c.as_slice-value-items.ensures c.loop-number-test.true in
    ap (λ items. with_values items (drop (i + 1) names) (drop (i + 1) values)) c.in_ok-write_value.ensures
    ∙ ap (λ vs. with_values (with_value c.loop-number.out.items (slice_index_or names i []) (slice_index_or vs i false)) (drop (i + 1) names) (drop (i + 1) values)) c.as_slice-value-items.ensures
    ∙ value_next c.loop-number.out.items names values i (omega (arith, inside, c.requires)) c.requires
    ∙ c.loop-number.invariant

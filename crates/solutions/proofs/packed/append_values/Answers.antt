use Rattle.std.proofs.Common.{◌≡◌, ◌+◌, ◌-◌, ◌/◌, ◌++◌, sym, ap, ◌∙◌, append-nil, arith}
use Rattle.solutions.specs.Packed.{word_values}
use Rattle.solutions.proofs.Packing.{no_values, value_appended}
use Rattle.solutions.proofs.packed.append_values.Goals as goal

pub loop-preserved : goal.loop-preserved
loop-preserved c =
    let at = c.loop in (
      omega (arith, c.loop-test.true),
      ap (λ xs. xs ++ word_values (c.args.count - (at.counter + 1)) (at.rest / 2)) c.in_ok-push.ensures.items
          ∙ value_appended c.args.values.now.items at.values.items c.args.count at.counter c.args.word at.rest c.loop-test.true at.invariant.1,
    )

pub returns : goal.returns
returns c =
    let at = c.loop in
    let none : c.args.count - at.counter ≡ 0 = omega (arith, c.loop-test.false) in
    let h = rw none at at.invariant.1 in
    sym (ap (λ xs. at.values.items ++ xs) (no_values at.rest) ∙ append-nil at.values.items) ∙ h

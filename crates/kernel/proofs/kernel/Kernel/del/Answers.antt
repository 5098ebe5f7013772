use Rattle.std.proofs.Common.{◌+◌, pos, FitsSigned, take, get_or, sym, subst, ◌∙◌, to_z, of_z, rules}
use Rattle.std.proofs.lemmas.Int.{to_z-of_z}
use mir.Syntax.{w128}
use Rattle.proof_rules.specs.Legal.{LegalDel}
use Rattle.kernel.specs.Held.{Held}
use Rattle.kernel.proofs.Deleting.{del_next, del_outside, del_take}
use Rattle.kernel.proofs.kernel.Kernel.del.Goals as goal

pub remove-requires-clause-outside : goal.remove-requires-clause-outside
remove-requires-clause-outside g c =
    let k : Held = c.args.self.now in
    let at = c.loop-number in
    del_outside k.state at.self.state (take at.number-index c.args.numbers.now) at.invariant.1 c.requires.outside

pub remove-requires-clause-live : goal.remove-requires-clause-live
remove-requires-clause-live g c =
    let k : Held = c.args.self.now in
    let at = c.loop-number in
    let number = get_or c.args.numbers.now at.number-index (pos 0) in
    let fits : FitsSigned w128 number = search rules in
    let whole = c.in_ok-judge_deletion.ensures.ok in
    del_next k.state at.self.state whole.0 c.args.numbers.now at.number-index (to_z w128 (of_z w128 number)) (pos 0) c.loop-number-test.true (to_z-of_z w128 number fits) whole.1 at.invariant.1

pub loop-number-preserved : goal.loop-number-preserved
loop-number-preserved g c =
    let k : Held = c.args.self.now in
    let at = c.loop-number in
    let number = get_or c.args.numbers.now at.number-index (pos 0) in
    let fits : FitsSigned w128 number = search rules in
    let whole = c.in_ok-judge_deletion.ensures.ok in
    let live = del_next k.state at.self.state whole.0 c.args.numbers.now at.number-index (to_z w128 (of_z w128 number)) (pos 0) c.loop-number-test.true (to_z-of_z w128 number fits) whole.1 at.invariant.1 in (
      c.remove.ensures.problem ∙ at.invariant.0,
      subst (LegalDel k.state (take (at.number-index + 1) c.args.numbers.now)) (sym c.remove.ensures.state)
          (del_take k.state at.self.state c.args.numbers.now at.number-index (to_z w128 (of_z w128 number)) (pos 0) c.loop-number-test.true (to_z-of_z w128 number fits) at.invariant.1 live),
    )

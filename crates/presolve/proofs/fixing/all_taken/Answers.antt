use Rattle.std.proofs.Common.{◌≡◌, ℕ, ◌+◌, subst, sym, arith}
use Rattle.presolve.specs.Uses.{AreTakenBelow}
use Rattle.presolve.proofs.Taking.{taken_more}
use Rattle.presolve.proofs.fixing.all_taken.Goals as goal

pub loop-number-preserved : goal.loop-number-preserved
loop-number-preserved c =
    let table = c.args.wanted.now in
    let i = c.loop-number.number in
    subst (AreTakenBelow table (i + 1)) (sym (c.in_ok-add.ensures {u = tt})) (taken_more table i c.loop-number.literals.items c.taken-found.result c.taken-found.ensures c.loop-number.invariant)

pub returns : goal.returns
returns c =
    let end : c.loop-number.number ≡ c.args.count = omega (arith, c.loop-number-test.false, c.loop-number.auto.number-end) in
    subst (λ (n : ℕ). AreTakenBelow c.args.wanted.now n c.loop-number.literals.items) end c.loop-number.invariant

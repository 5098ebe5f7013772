-- Both hands are empty.
use Rattle.std.proofs.Common.{subst}
use mir.Syntax.{w128}
use Rattle.std.specs.Prelude.{ℤ}
use Rattle.std.proofs.lemmas.Int.{to_z-of_z}
use Rattle.proof_rules.specs.Running.{AppliesItem}
use Rattle.proof_steps.specs.declared.step.Item.TheVariants as items
use Rattle.pol_stack.proofs.RunningSums.{below_hands}
use Rattle.pol_stack.proofs.stack.Stack.multiply_top.Goals as goal

pub returns-then-branch-clause-ok : goal.returns-then-branch-clause-ok
returns-then-branch-clause-ok c given = below_hands c.args.self.now c.self.inside.pile c.multiply_sum.new.self c.self.inside.top c.self.inside.under given (items.Multiply c.args.factor) c.if-is_none.ensures c.if-is_none-2.ensures c.self.view_is
    (subst (λ (k : ℤ). AppliesItem given (items.Multiply k) c.self.inside.pile c.multiply_sum.new.self) (to_z-of_z w128 c.args.factor c.ranges.factor) (c.in_ok-multiply_sum.ensures.multiplied given c.if-branch.true))

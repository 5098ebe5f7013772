-- Both hands are empty.
use Rattle.std.proofs.Common.{subst}
use mir.Syntax.{w128}
use Rattle.std.specs.Prelude.{ℤ}
use Rattle.std.proofs.lemmas.Int.{to_z-of_z}
use Rattle.proof_rules.specs.Running.{AppliesItem}
use Rattle.proof_steps.specs.declared.step.Item.TheVariants as items
use Rattle.pol_stack.proofs.RunningSums.{below_hands}
use Rattle.pol_stack.proofs.stack.Stack.divide_top.Goals as goal

pub returns-then-branch-clause-ok : goal.returns-then-branch-clause-ok
returns-then-branch-clause-ok c given = below_hands c.args.self.now c.self.inside.pile c.divide_sum.new.self c.self.inside.top c.self.inside.under given (items.Divide c.args.divisor) c.if-is_none.ensures c.if-is_none-2.ensures c.self.view_is
    (subst (λ (k : ℤ). AppliesItem given (items.Divide k) c.self.inside.pile c.divide_sum.new.self) (to_z-of_z w128 c.args.divisor c.ranges.divisor) (c.in_ok-divide_sum.ensures.divided given c.if-branch.true))

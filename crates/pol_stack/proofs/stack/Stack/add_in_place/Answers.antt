-- Both hands are empty.
use Rattle.proof_steps.specs.declared.step.Item.TheVariants as items
use Rattle.pol_stack.proofs.RunningSums.{below_hands}
use Rattle.pol_stack.proofs.stack.Stack.add_in_place.Goals as goal

pub returns-then-is_none-2-clause-added : goal.returns-then-is_none-2-clause-added
returns-then-is_none-2-clause-added c given h = below_hands c.args.self.now c.self.inside.pile c.add_from_below.new.self c.self.inside.top c.self.inside.under given items.Add c.if-is_none.ensures c.if-is_none-2.ensures c.self.view_is (c.in_ok-added.ensures.added given h)

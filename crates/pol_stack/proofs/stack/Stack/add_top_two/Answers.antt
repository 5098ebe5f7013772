use Rattle.pol_stack.proofs.stack.Stack.add_top_two.Goals as goal

pub returns-then-branch-clause-ok : goal.returns-then-branch-clause-ok
returns-then-branch-clause-ok c given = c.in_ok-add_in_place.ensures.added given c.if-branch.true

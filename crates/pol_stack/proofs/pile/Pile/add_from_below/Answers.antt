-- Nothing stands above the running sum.
use Rattle.std.proofs.Common.{rules, true, ap, length}
use Rattle.std.specs.Prelude.{IsTrue}
use Rattle.pol_stack.proofs.RunningSums.{added_on_top}
use Rattle.pol_stack.proofs.pile.Pile.add_from_below.Goals as goal

always : IsTrue true
always = search rules

pub returns-clause-added : goal.returns-clause-added
returns-clause-added c given added =
    let top = c.if-not-is_on_top.ensures.yes always in
    added_on_top c.args.self.now c.self.inside.above.items c.self.inside.below.items c.add_last.new.below.items c.self.inside.held c.self.inside.sum c.add_last.new.sum given (ap length top.1) top.0 c.self.view_is (c.in_ok-count.ensures.ok given)

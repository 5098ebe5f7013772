-- The last operand below stands under the running sum.
use Rattle.std.proofs.Common.{rules, ◌∷◌, subst}
use Rattle.normal_form.specs.Normal.{NormalConstraint}
use Rattle.cut_rules.specs.Rules.{IsSum}
use Rattle.proof_rules.specs.Fault.{OrMemory, IsAddFault}
use Rattle.proof_rules.proofs.PolFaults.{or_memory}
use Rattle.pol_stack.specs.Stack.{operand_value, stack_of, IsSumFault}
use Rattle.pol_stack.proofs.RunningSums.{added_below, fault_below}
use Rattle.pol_stack.proofs.pile.add_last.Goals as goal

pub returns-in-Ok-clause-ok : goal.returns-in-Ok-clause-ok
returns-in-Ok-clause-ok c given = added_below c.args.below.now.items c.pop.new.self.items c.in-Some.left c.args.sum.now c.add.new.self given c.in-Some.ensures.items (subst (λ (n : NormalConstraint). IsSum c.args.sum.now n c.add.new.self) c.constraint.ensures c.in-Ok.ensures.sum) c.in-Ok.ensures.normal.fits

pub returns-in-Err-clause-fault : goal.returns-in-Err-clause-fault
returns-in-Err-clause-fault c =
    let f = c.from.result in
    let told : OrMemory c.from.result (IsSumFault c.args.sum.now (operand_value c.in-Some.left) c.from.result) = search rules in
    or_memory f (IsSumFault c.args.sum.now (operand_value c.in-Some.left) f) (IsAddFault (c.args.sum.now ∷ stack_of c.args.below.now.items) f) (fault_below c.args.below.now.items c.pop.new.self.items c.in-Some.left c.args.sum.now f c.in-Some.ensures.items) told

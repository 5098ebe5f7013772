use Rattle.std.proofs.Common.{OnOk, FitsSigned, ap, subst, sym, ◌∙◌, rules}
use Rattle.std.proofs.lemmas.Int.{to_z-of_z}
use mir.Syntax.{w128}
use Rattle.proof_steps.specs.declared.step.Item.TheVariants as items
use Rattle.proof_rules.specs.Running.{AppliesItem}
use Rattle.database.specs.Database.{found}
use Rattle.kernel.proofs.pol.apply_item.Goals as goal

pub returns-in_ok-push_axiom-in-Axiom-clause-ok : goal.returns-in_ok-push_axiom-in-Axiom-clause-ok
returns-in_ok-push_axiom-in-Axiom-clause-ok g c =
    let given = found c.args.database.now in
    subst (λ i. AppliesItem given i c.args.stack.now c.push_axiom.new.self) (sym c.in-Axiom.is) (c.in_ok-push_axiom-in-Axiom.ensures.ok given)

pub returns-in-Add-clause-ok : goal.returns-in-Add-clause-ok
returns-in-Add-clause-ok g c =
    let given = found c.args.database.now in
    subst (λ i. OnOk c.add_top_two.result (AppliesItem given i c.args.stack.now c.add_top_two.new.self)) (sym c.in-Add.is) (c.add_top_two.ensures.ok given)

pub returns-in-Saturate-clause-ok : goal.returns-in-Saturate-clause-ok
returns-in-Saturate-clause-ok g c =
    let given = found c.args.database.now in
    subst (λ i. OnOk c.saturate_top.result (AppliesItem given i c.args.stack.now c.saturate_top.new.self)) (sym c.in-Saturate.is) (c.saturate_top.ensures.ok given)

pub returns-in-Weaken-clause-ok : goal.returns-in-Weaken-clause-ok
returns-in-Weaken-clause-ok g c =
    let given = found c.args.database.now in
    subst (λ i. OnOk c.weaken_top.result (AppliesItem given i c.args.stack.now c.weaken_top.new.self)) (sym c.in-Weaken.is) (c.weaken_top.ensures.ok given)

pub returns-in-Multiply-clause-ok : goal.returns-in-Multiply-clause-ok
returns-in-Multiply-clause-ok g c =
    let given = found c.args.database.now in
    let fits : FitsSigned w128 c.in-Multiply.factor = search rules in
    subst (λ i. OnOk c.multiply_top.result (AppliesItem given i c.args.stack.now c.multiply_top.new.self))
    (ap items.Multiply (to_z-of_z w128 c.in-Multiply.factor fits) ∙ sym c.in-Multiply.is) (c.multiply_top.ensures.ok given)

pub returns-in-Divide-clause-ok : goal.returns-in-Divide-clause-ok
returns-in-Divide-clause-ok g c =
    let given = found c.args.database.now in
    let fits : FitsSigned w128 c.in-Divide.divisor = search rules in
    subst (λ i. OnOk c.divide_top.result (AppliesItem given i c.args.stack.now c.divide_top.new.self))
    (ap items.Divide (to_z-of_z w128 c.in-Divide.divisor fits) ∙ sym c.in-Divide.is) (c.divide_top.ensures.ok given)

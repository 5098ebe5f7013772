use Rattle.std.proofs.Common.{◌≡◌, List, [], ◌∷◌, ◌++◌, pos, rules, sym, subst}
use Rattle.proof_steps.specs.declared.step.Item.{Item}
use Rattle.proof_steps.specs.declared.step.Item.TheVariants as items
use Rattle.proof_rules.specs.Running.{LeavesStack}
use Rattle.proof_rules.proofs.Postfix.{LeavesStack-push}
use Rattle.row_sums.proofs.line.Line.cite.Goals as goal

pub returns : goal.returns
returns c given is before =
    let items_before = c.args.self.now.items.items in
    let item = items.Id (pos c.args.id) in
    let written : c.push.new.self.items ≡ items_before ++ item ∷ [] = search rules in
    subst (λ (w : List Item). LeavesStack given w c.push-2.new.self) (sym written)
    (LeavesStack-push given items_before item c.args.self.now.stack c.push-2.new.self (c.args.constraint.now, is, c.in_ok-push-2.ensures) before)

use Rattle.std.proofs.Common.{List, sym, subst}
use Rattle.proof_steps.specs.declared.step.Item.{Item}
use Rattle.proof_rules.specs.Running.{LeavesStack}
use Rattle.proof_rules.proofs.Postfix.{LeavesStack-push}
use Rattle.row_sums.proofs.line.Line.append.Goals as goal

pub returns : goal.returns
returns c given before =
    subst (λ (w : List Item). LeavesStack given w c.run_item.new.stack) (sym c.in_ok-push.ensures.items)
    (LeavesStack-push given c.args.self.now.items.items c.args.item c.args.self.now.stack c.run_item.new.stack (c.in_ok-run_item.ensures given) before)

use Rattle.std.proofs.Common.{◌≡◌, List, [], ◌∷◌, refl, rules, sym, subst, ◌∙◌}
use Rattle.normal_form.specs.Normal.{NormalConstraint}
use Rattle.proof_steps.specs.declared.step.Item.{Item}
use Rattle.proof_rules.specs.Expression.{Given, IsPostfixOf}
use Rattle.proof_rules.specs.Running.{LeavesStack}
use Rattle.row_sums.proofs.line.Line.resume.Goals as goal

-- the one constraint on the stack is the value of the expression that the items write
resumed : (given : Given) (items written : List Item) (value : NormalConstraint) (stack : List NormalConstraint)
    → written ≡ items → stack ≡ value ∷ [] → IsPostfixOf given items value → LeavesStack given written stack
resumed given items written value stack same is p =
    subst (λ (s : List NormalConstraint). LeavesStack given written s) (sym is) ([], p.0, same ∙ sym p.1, p.2, refl)

pub returns : goal.returns
returns c given p = resumed given c.args.items c.into_vec.result.items c.args.value c.push.new.self (search rules) (search rules) p

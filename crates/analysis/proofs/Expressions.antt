-- One more item on the text of an expression, or two texts and `+`.
use Rattle.std.proofs.Common.{◌≡◌, ℤ, pos, ◌<ℤ◌, List, [], ◌∷◌, ◌++◌, unsigned_abs, Some, ap, sym, ◌∙◌}
use Rattle.linear.specs.declared.term.Lit.{Lit}
use Rattle.linear.specs.declared.term.Var.{Var}
use Rattle.normal_form.specs.Normal.{NormalConstraint, Fits}
use Rattle.cut_rules.specs.Rules.{IsSum, IsMultiple, IsQuotient, IsSaturation, IsWeakening, IsAxiom}
use Rattle.proof_steps.specs.declared.step.Item.{Item}
use Rattle.proof_steps.specs.declared.step.Item.TheVariants as items
use Rattle.proof_rules.specs.Expression.{Given, cited, axiom_of, sum, multiple, quotient, saturated, weakened, postfix, IsPostfixOf}

pub cites : (given : Given) (written : List Item) (id : ℤ) (n r : NormalConstraint) → written ≡ items.Id id ∷ [] → r ≡ n → given id ≡ Some n → IsPostfixOf given written r
cites given written id n r e same is = (cited id, sym e, is ∙ ap Some (sym same))

pub weakens : (given : Given) (written more : List Item) (x : Var) (n r : NormalConstraint) → more ≡ written ++ items.Weaken x ∷ [] → IsWeakening (x.0) n r
    → IsPostfixOf given written n → IsPostfixOf given more r
weakens given written more x n r e rule p = (weakened x p.0, ap (λ (t : List Item). t ++ items.Weaken x ∷ []) p.1 ∙ sym e, (n, p.2, rule))

pub divides : (given : Given) (written more : List Item) (k : ℤ) (n r : NormalConstraint) → more ≡ written ++ items.Divide k ∷ [] → pos 0 <ℤ k → IsQuotient (unsigned_abs k) n r
    → IsPostfixOf given written n → IsPostfixOf given more r
divides given written more k n r e above rule p = (quotient k p.0, ap (λ (t : List Item). t ++ items.Divide k ∷ []) p.1 ∙ sym e, (n, above, p.2, rule))

pub multiplies : (given : Given) (written more : List Item) (k : ℤ) (n r : NormalConstraint) → more ≡ written ++ items.Multiply k ∷ [] → pos 0 <ℤ k → IsMultiple (unsigned_abs k) n r → Fits r
    → IsPostfixOf given written n → IsPostfixOf given more r
multiplies given written more k n r e above rule fits p = (multiple k p.0, ap (λ (t : List Item). t ++ items.Multiply k ∷ []) p.1 ∙ sym e, (n, above, p.2, rule, fits))

pub saturates : (given : Given) (written more : List Item) (n r : NormalConstraint) → more ≡ written ++ items.Saturate ∷ [] → IsSaturation n r
    → IsPostfixOf given written n → IsPostfixOf given more r
saturates given written more n r e rule p = (saturated p.0, ap (λ (t : List Item). t ++ items.Saturate ∷ []) p.1 ∙ sym e, (n, p.2, rule))

pub adds : (given : Given) (left right both more : List Item) (n m r : NormalConstraint) → both ≡ left ++ right → more ≡ both ++ items.Add ∷ [] → IsSum n m r → Fits r
    → IsPostfixOf given left n → IsPostfixOf given right m → IsPostfixOf given more r
adds given left right both more n m r b e rule fits p q =
    let text : postfix (sum p.0 q.0) ≡ both ++ items.Add ∷ [] =
    ap (λ (t : List Item). (t ++ postfix q.0) ++ items.Add ∷ []) p.1 ∙ ap (λ (t : List Item). (left ++ t) ++ items.Add ∷ []) q.1 ∙ ap (λ (t : List Item). t ++ items.Add ∷ []) (sym b) in
    (sum p.0 q.0, text ∙ sym e, (n, m, p.2, q.2, rule, fits))

pub axioms : (given : Given) (written : List Item) (l : Lit) (r : NormalConstraint) → written ≡ items.Axiom l ∷ [] → IsAxiom l r → IsPostfixOf given written r
axioms given written l r e rule = (axiom_of l, sym e, rule)

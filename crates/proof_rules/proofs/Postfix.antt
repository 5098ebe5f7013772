-- What stands on the stack is what the items so far write.
use Rattle.std.proofs.Common.{◌≡◌, ℕ, ◌+◌, ◌<◌, List, [], ◌∷◌, ◌++◌, length, get_or, take, refl, sym, ap, subst, ◌∙◌, append_assoc}
use Rattle.std.proofs.lemmas.List.{take_more}
use Rattle.normal_form.specs.Normal.{NormalConstraint}
use Rattle.proof_steps.specs.declared.step.Item.{Item}
use Rattle.proof_steps.specs.declared.step.Item.TheVariants as items
use Rattle.proof_rules.specs.Expression.{Given, Expression, cited, axiom_of, sum, multiple, quotient, saturated, weakened, postfix, HasValue, IsPostfixOf}
use Rattle.proof_rules.specs.Running.{LeavesStack, AppliesItem}

-- an operand that was pushed: an expression whose text is one item
pushed : (given : Given) (written : List Item) (i : Item) (e : Expression) (n : NormalConstraint) (old new : List NormalConstraint)
    → postfix e ≡ i ∷ [] → HasValue given e n → new ≡ n ∷ old → LeavesStack given written old → LeavesStack given (written ++ i ∷ []) new
pushed given written i e n old new text value is before =
    subst (LeavesStack given (written ++ i ∷ [])) (sym is) (written, e, ap (λ t. written ++ t) (sym text), value, before)

-- a rule on the top of the stack: the expression with the rule put on it
replaced : (given : Given) (written : List Item) (i : Item) (d n : NormalConstraint) (rest old new : List NormalConstraint)
    → ((e : Expression) → HasValue given e d → (f : Expression) × (postfix f ≡ postfix e ++ i ∷ []) × HasValue given f n)
    → old ≡ d ∷ rest → new ≡ n ∷ rest → LeavesStack given written old → LeavesStack given (written ++ i ∷ []) new
replaced given written i d n rest old new made was is before =
    let w = subst (LeavesStack given written) was before in
    let f = made w.1 w.3 in
    let text : written ++ i ∷ [] ≡ w.0 ++ postfix f.0 = ap (λ t. t ++ i ∷ []) w.2 ∙ append_assoc w.0 (postfix w.1) (i ∷ []) ∙ ap (λ t. w.0 ++ t) (sym f.1) in
    subst (LeavesStack given (written ++ i ∷ [])) (sym is) (w.0, f.0, text, f.2, w.4)

-- one more item
pub LeavesStack-push : (given : Given) (written : List Item) (i : Item) (old new : List NormalConstraint)
    → AppliesItem given i old new → LeavesStack given written old → LeavesStack given (written ++ i ∷ []) new
LeavesStack-push given written (items.Id id) old new s before = pushed given written (items.Id id) (cited id) s.0 old new refl s.1 s.2 before
LeavesStack-push given written (items.Axiom l) old new s before = pushed given written (items.Axiom l) (axiom_of l) s.0 old new refl s.1 s.2 before
LeavesStack-push given written items.Add old new s before =
    let w = subst (LeavesStack given written) s.4 before in
    let v = w.4 in
    let text : written ++ items.Add ∷ [] ≡ v.0 ++ postfix (sum v.1 w.1) =
    ap (λ t. t ++ items.Add ∷ []) (w.2 ∙ ap (λ t. t ++ postfix w.1) v.2 ∙ append_assoc v.0 (postfix v.1) (postfix w.1))
    ∙ append_assoc v.0 (postfix v.1 ++ postfix w.1) (items.Add ∷ []) in
    subst (LeavesStack given (written ++ items.Add ∷ [])) (sym s.7) (v.0, sum v.1 w.1, text, (s.0, s.1, v.3, w.3, s.5, s.6), v.4)
LeavesStack-push given written (items.Multiply k) old new s before =
    replaced given written (items.Multiply k) s.0 s.1 s.2 old new (λ e h. (multiple k e, refl, (s.0, s.4, h, s.5, s.6))) s.3 s.7 before
LeavesStack-push given written (items.Divide k) old new s before =
    replaced given written (items.Divide k) s.0 s.1 s.2 old new (λ e h. (quotient k e, refl, (s.0, s.4, h, s.5))) s.3 s.6 before
LeavesStack-push given written items.Saturate old new s before =
    replaced given written items.Saturate s.0 s.1 s.2 old new (λ e h. (saturated e, refl, (s.0, h, s.4))) s.3 s.5 before
LeavesStack-push given written (items.Weaken x) old new s before =
    replaced given written (items.Weaken x) s.0 s.1 s.2 old new (λ e h. (weakened x e, refl, (s.0, h, s.4))) s.3 s.5 before

-- one constraint is left: the items write one expression
pub IsPostfixOf-from_LeavesStack : (given : Given) (written : List Item) (n : NormalConstraint) → LeavesStack given written (n ∷ []) → IsPostfixOf given written n
IsPostfixOf-from_LeavesStack given written n w = (w.1, sym (w.2 ∙ ap (λ b. b ++ postfix w.1) w.4), w.3)

-- one more of the items
pub LeavesStack-take : (given now : Given) (all : List Item) (i : ℕ) (item d : Item) (old new : List NormalConstraint) → now ≡ given → i < length all
    → item ≡ get_or all i d → AppliesItem now item old new → LeavesStack given (take i all) old → LeavesStack given (take (i + 1) all) new
LeavesStack-take given now all i item d old new same h is s before =
    let step = subst (λ l. AppliesItem l item old new) same s in
    let text : take i all ++ item ∷ [] ≡ take (i + 1) all = ap (λ x. take i all ++ x ∷ []) is ∙ sym (take_more all i d h) in
    subst (λ w. LeavesStack given w new) text (LeavesStack-push given (take i all) item old new step before)

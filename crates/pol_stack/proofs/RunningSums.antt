-- Adding the last operand below a running sum to it is adding the two on top.
use Rattle.std.proofs.Common.{◌≡◌, ℕ, zero, suc, true, false, min, max, List, [], ◌∷◌, ◌++◌, length, reverse, map, Option, Some, None, is_some, refl, ap, subst, ◌∙◌, arith}
use Rattle.std.proofs.lemmas.List.{map-append, reverse-append}
use Rattle.normal_form.specs.Normal.{NormalConstraint, Fits, sum_below, variable_bound}
use Rattle.cut_rules.specs.Rules.{IsSum, IsTooLarge, both_at, cancelled}
use Rattle.proof_rules.specs.declared.fault.StepFault.{StepFault}
use Rattle.proof_rules.specs.declared.fault.StepFault.TheVariants as faults
use Rattle.proof_steps.specs.declared.step.Item.{Item}
use Rattle.proof_steps.specs.declared.step.Item.TheVariants as items
use Rattle.proof_rules.specs.Expression.{Given}
use Rattle.proof_rules.specs.Running.{AppliesItem}
use Rattle.proof_rules.specs.Fault.{IsAddFault}
use Rattle.pol_stack.specs.declared.operand.Operand.{Operand}
use Rattle.pol_stack.specs.declared.pile.Held.{Held}
use Rattle.pol_stack.specs.declared.pile.Held.TheVariants as held
use Rattle.pol_stack.specs.Stack.{operand_value, stack_of, stacked, with_hands, IsSumFault}

same_below : (n : ℕ) (f g : ℕ → ℕ) → ((v : ℕ) → f v ≡ g v) → sum_below n f ≡ sum_below n g
same_below zero f g e = refl
same_below (suc n) f g e = omega (arith, same_below n f g e, e n)

same_cancelled : (d e : NormalConstraint) → cancelled d e ≡ cancelled e d
same_cancelled d e =
    let bounds : max (variable_bound d.terms) (variable_bound e.terms) ≡ max (variable_bound e.terms) (variable_bound d.terms) = omega arith in
    ap (λ (n : ℕ). sum_below n (λ v. min (both_at d e v false) (both_at d e v true))) bounds ∙ same_below (max (variable_bound e.terms) (variable_bound d.terms)) (λ v. min (both_at d e v false) (both_at d e v true)) (λ v. min (both_at e d v false) (both_at e d v true)) (λ v. omega arith)

-- the operands of a sum may change places
pub swapped_sum : (d e r : NormalConstraint) → IsSum d e r → IsSum e d r
swapped_sum d e r g = record {
  coefficients = λ v s. omega (arith, g.coefficients v s);
  degree = omega (arith, g.degree, same_cancelled d e);
  rises = g.rises;
}

last_first : (rest : List Operand) (o : Operand) → stack_of (rest ++ o ∷ []) ≡ operand_value o ∷ stack_of rest
last_first rest o = ap reverse (map-append operand_value rest (o ∷ [])) ∙ reverse-append (map operand_value rest) (operand_value o ∷ [])

two_on_top : (below rest : List Operand) (left : Operand) (s : NormalConstraint) → below ≡ rest ++ left ∷ [] → s ∷ stack_of below ≡ s ∷ operand_value left ∷ stack_of rest
two_on_top below rest left s e = ap (λ (ops : List Operand). s ∷ stack_of ops) e ∙ ap (λ (ns : List NormalConstraint). s ∷ ns) (last_first rest left)

-- what stands below a running sum is added to it
pub added_below : (below rest : List Operand) (left : Operand) (s n : NormalConstraint) (given : Given) → below ≡ rest ++ left ∷ [] → IsSum s (operand_value left) n → Fits n → AppliesItem given items.Add (s ∷ stack_of below) (n ∷ stack_of rest)
added_below below rest left s n given e g f = (operand_value left, s, n, stack_of rest, two_on_top below rest left s e, swapped_sum s (operand_value left) n g, f, refl)

too_large_below : (d e r : NormalConstraint) → IsTooLarge (IsSum d e) r → IsTooLarge (IsSum e d) r
too_large_below d e r h = record { given = swapped_sum d e r h.given; breaks = h.breaks }

pub fault_below : (below rest : List Operand) (left : Operand) (s : NormalConstraint) (f : StepFault) → below ≡ rest ++ left ∷ [] → IsSumFault s (operand_value left) f → IsAddFault (s ∷ stack_of below) f
fault_below below rest left s faults.TooLarge e g = (operand_value left, s, stack_of rest, g.0, two_on_top below rest left s e, too_large_below s (operand_value left) g.0 g.1)
fault_below below rest left s _ e g = absurd g

-- where nothing stands above a running sum, what is added to it is added to the one on top
pub added_on_top : (old : List NormalConstraint) (above below behind : List Operand) (what : Held) (s n : NormalConstraint) (given : Given) → length above ≡ 0 → what ≡ held.RunningSum → stacked above what s below ≡ old → AppliesItem given items.Add (s ∷ stack_of below) (n ∷ stack_of behind) → AppliesItem given items.Add old (stacked above what n behind)
added_on_top old [] below behind held.RunningSum s n given bare is view h = subst (λ (ns : List NormalConstraint). AppliesItem given items.Add ns (n ∷ stack_of behind)) view h
added_on_top old [] below behind held.Nothing s n given bare is view h = cc
added_on_top old (o ∷ above) below behind what s n given bare is view h = absurd (omega (arith, bare))

-- where both hands are empty, what an item does to the pile it does to the stack
pub below_hands : (old pile next : List NormalConstraint) (top under : Option Operand) (given : Given) (item : Item) → is_some top ≡ false → is_some under ≡ false → with_hands top under pile ≡ old → AppliesItem given item pile next → AppliesItem given item old (with_hands top under next)
below_hands old pile next None None given item t u view h = subst (λ (ns : List NormalConstraint). AppliesItem given item ns next) view h
below_hands old pile next None (Some o) given item t u view h = cc
below_hands old pile next (Some o) under given item t u view h = cc

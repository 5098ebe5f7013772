-- Faults of `pol` steps: where a run stops, and that what has one is not legal.
use Rattle.std.proofs.Common.{◌≡◌, ℕ, zero, suc, ◌+◌, ◌<◌, inl, inr, List, [], ◌∷◌, ◌++◌, length, get_or, take, drop, refl, sym, ap, subst, ◌∙◌, arith}
use Rattle.std.proofs.lemmas.List.{take_more}
use Rattle.normal_form.specs.Normal.{NormalConstraint}
use Rattle.proof_rules.specs.declared.fault.StepFault.{StepFault}
use Rattle.proof_rules.specs.declared.fault.StepFault.TheVariants as faults
use Rattle.proof_steps.specs.declared.step.Item.{Item}
use Rattle.proof_steps.specs.declared.step.Item.TheVariants as items
use Rattle.proof_rules.specs.Expression.{Given}
use Rattle.proof_rules.specs.Running.{AppliesItem, Runs}
use Rattle.proof_rules.specs.Fault.{OrMemory, IsItemFault, StopsAtItem, LeavesOther, IsWritingFault, IsPolFault}
use Rattle.proof_rules.specs.State.{State, constraint_of}

pub or_memory : (f : StepFault) (P Q : Type 0) → (P → Q) → OrMemory f P → OrMemory f Q
or_memory faults.OutOfMemory P Q h p = tt
or_memory _ P Q h p = h p

pub stops_writing : (given : Given) (written : List Item) (f : StepFault) → StopsAtItem given written f → IsWritingFault given written f
stops_writing given written faults.StackShape h = inl h
stops_writing given written _ h = h

pub leaves_writing : (given : Given) (written : List Item) (f : StepFault) → f ≡ faults.StackShape → LeavesOther given written → IsWritingFault given written f
leaves_writing given written f is h = subst (IsWritingFault given written) (sym is) (inr h)

-- one more item
pub Runs-push : (given : Given) (written : List Item) (i : Item) (old s new : List NormalConstraint) → Runs given written old s → AppliesItem given i s new → Runs given (written ++ i ∷ []) old new
Runs-push given [] i old s new runs step = (new, subst (λ x. AppliesItem given i x new) runs step, refl)
Runs-push given (j ∷ written) i old s new (between, first, rest) step = (between, first, Runs-push given written i between s new rest step)

pub Runs-take : (given now : Given) (all : List Item) (i : ℕ) (item d : Item) (old new : List NormalConstraint) → now ≡ given → i < length all
    → item ≡ get_or all i d → AppliesItem now item old new → Runs given (take i all) [] old → Runs given (take (i + 1) all) [] new
Runs-take given now all i item d old new same h is s before =
    let step = subst (λ l. AppliesItem l item old new) same s in
    let text : take i all ++ item ∷ [] ≡ take (i + 1) all = ap (λ x. take i all ++ x ∷ []) is ∙ sym (take_more all i d h) in
    subst (λ w. Runs given w [] new) text (Runs-push given (take i all) item [] old new before step)

-- a list is what stands before a place, what stands there, and what stands behind
split_at : (all : List Item) (i : ℕ) (d : Item) → i < length all → all ≡ take i all ++ get_or all i d ∷ drop (i + 1) all
split_at [] i d h = absurd (omega (arith, h))
split_at (x ∷ xs) zero d h = refl
split_at (x ∷ xs) (suc i) d h =
    let next : suc (i + 1) ≡ suc i + 1 = omega arith in
    ap (λ rest. x ∷ rest) (split_at xs i d (omega (arith, h))) ∙ ap (λ k. x ∷ take i xs ++ get_or xs i d ∷ drop k (x ∷ xs)) next

-- an item that cannot be applied is the fault of all items
pub stops_here : (given now : Given) (all : List Item) (i : ℕ) (item d : Item) (stack : List NormalConstraint) (f : StepFault) → now ≡ given → i < length all
    → item ≡ get_or all i d → Runs given (take i all) [] stack → IsItemFault now item stack f → IsWritingFault given all f
stops_here given now all i item d stack f same h is runs fault =
    let text : all ≡ take i all ++ item ∷ drop (i + 1) all = split_at all i d h ∙ ap (λ x. take i all ++ x ∷ drop (i + 1) all) (sym is) in
    stops_writing given all f (take i all, item, drop (i + 1) all, stack, text, runs, subst (λ g. IsItemFault g item stack f) same fault)

-- no item has the fault of the ids
no_item : (given : Given) (i : Item) (stack : List NormalConstraint) → IsItemFault given i stack faults.TooManyIds → ⊥
no_item given (items.Id id) stack h = h
no_item given (items.Axiom l) stack h = h
no_item given items.Add stack h = h
no_item given (items.Multiply k) stack h = h
no_item given (items.Divide k) stack h = h
no_item given items.Saturate stack h = h
no_item given (items.Weaken x) stack h = h

pub writing_pol : (s : State) (written : List Item) (f : StepFault) → IsWritingFault (constraint_of s) written f → IsPolFault s written f
writing_pol s written faults.TooManyIds (before, i, behind, stack, is, runs, h) = absurd (no_item (constraint_of s) i stack h)
writing_pol s written _ h = h

-- A `pol` step has at most one fault: each item has, and a run stops at one place.
use Rattle.std.proofs.Common.{◌≡◌, ◌⊎◌, inl, inr, ℤ, pos, ◌<ℤ◌, List, [], ◌∷◌, ◌++◌, length, refl, sym, ap, subst, ◌∙◌, arith}
use Rattle.std.proofs.lemmas.Int.{ints}
use Rattle.normal_form.specs.Normal.{NormalConstraint}
use Rattle.proof_rules.specs.declared.fault.StepFault.{StepFault}
use Rattle.proof_rules.specs.declared.fault.StepFault.TheVariants as faults
use Rattle.proof_steps.specs.declared.step.Item.{Item}
use Rattle.proof_steps.specs.declared.step.Item.TheVariants as items
use Rattle.proof_rules.specs.Expression.{Given, IsPostfixOf}
use Rattle.proof_rules.specs.Running.{AppliesItem, Runs}
use Rattle.proof_rules.specs.Fault.{IsFactorFault, IsShapeFault, IsIdFault, IsAddFault, IsMultiplyFault, IsItemFault, StopsAtItem, LeavesOther, IsPolFault}
use Rattle.proof_rules.specs.State.{State, constraint_of}
use Rattle.proof_rules.proofs.Determined.{one_step, one_run, parts, stuck, empty_top, writing_never}
use Rattle.proof_rules.proofs.PolFaults.{stops_writing, leaves_writing}

-- a fault by its name, where a condition is so
abbrev pub Case : StepFault → StepFault → Type 0 → Type 0
Case f a P = (f ≡ a) × P

pub one_of_two : (f g a b : StepFault) (P Q : Type 0) → (P → Q → ⊥) → Case f a P ⊎ Case f b Q → Case g a P ⊎ Case g b Q → f ≡ g
one_of_two f g a b P Q never (inl h) (inl k) = h.0 ∙ sym k.0
one_of_two f g a b P Q never (inl h) (inr k) = absurd (never h.1 k.1)
one_of_two f g a b P Q never (inr h) (inl k) = absurd (never k.1 h.1)
one_of_two f g a b P Q never (inr h) (inr k) = h.0 ∙ sym k.0

pub one_of_three : (f g a b c : StepFault) (P Q R : Type 0) → (P → Q → ⊥) → (P → R → ⊥) → (Q → R → ⊥)
    → Case f a P ⊎ (Case f b Q ⊎ Case f c R) → Case g a P ⊎ (Case g b Q ⊎ Case g c R) → f ≡ g
one_of_three f g a b c P Q R pq pr qr (inl h) (inl k) = h.0 ∙ sym k.0
one_of_three f g a b c P Q R pq pr qr (inl h) (inr (inl k)) = absurd (pq h.1 k.1)
one_of_three f g a b c P Q R pq pr qr (inl h) (inr (inr k)) = absurd (pr h.1 k.1)
one_of_three f g a b c P Q R pq pr qr (inr (inl h)) (inl k) = absurd (pq k.1 h.1)
one_of_three f g a b c P Q R pq pr qr (inr (inr h)) (inl k) = absurd (pr k.1 h.1)
one_of_three f g a b c P Q R pq pr qr (inr h) (inr k) = one_of_two f g b c Q R qr h k

abbrev Stack : Type 0
Stack = List NormalConstraint

shape_is : (stack : Stack) (f : StepFault) → IsShapeFault stack f → f ≡ faults.StackShape
shape_is stack faults.StackShape h = refl
shape_is stack _ h = absurd h

id_is : (given : Given) (id : ℤ) (f : StepFault) → IsIdFault given id f → f ≡ faults.DeadId
id_is given id faults.DeadId h = refl
id_is given id _ h = absurd h

factor_is : (k : ℤ) (stack : Stack) (f : StepFault) → IsFactorFault k stack f → Case f faults.StackShape (IsFactorFault k stack faults.StackShape) ⊎ Case f faults.BadFactor (IsFactorFault k stack faults.BadFactor)
factor_is k stack faults.StackShape h = inl (refl, h)
factor_is k stack faults.BadFactor h = inr (refl, h)
factor_is k stack _ h = absurd h

one_factor_fault : (k : ℤ) (stack : Stack) (f g : StepFault) → IsFactorFault k stack f → IsFactorFault k stack g → f ≡ g
one_factor_fault k stack f g h j =
    one_of_two f g faults.StackShape faults.BadFactor (IsFactorFault k stack faults.StackShape) (IsFactorFault k stack faults.BadFactor)
    (λ none some. some.0 none) (factor_is k stack f h) (factor_is k stack g j)

-- two operands, and one operand with a factor
abbrev HasTwo : Stack → Type 0
HasTwo stack = (d : NormalConstraint) × (g : NormalConstraint) × (rest : Stack) × (stack ≡ g ∷ d ∷ rest)

abbrev HasOne : ℤ → Stack → Type 0
HasOne k stack = (d : NormalConstraint) × (rest : Stack) × (stack ≡ d ∷ rest) × (pos 0 <ℤ k)

add_is : (stack : Stack) (f : StepFault) → IsAddFault stack f → Case f faults.StackShape (IsAddFault stack faults.StackShape) ⊎ Case f faults.TooLarge (HasTwo stack)
add_is stack faults.StackShape h = inl (refl, h)
add_is stack faults.TooLarge (d, g, rest, r, is, large) = inr (refl, (d, g, rest, is))
add_is stack _ h = absurd h

few_never : (stack : Stack) → IsAddFault stack faults.StackShape → HasTwo stack → ⊥
few_never stack few (d, g, rest, is) = omega (arith, few, ap length is)

multiply_is : (k : ℤ) (stack : Stack) (f : StepFault) → IsMultiplyFault k stack f
    → Case f faults.StackShape (IsFactorFault k stack faults.StackShape) ⊎ (Case f faults.BadFactor (IsFactorFault k stack faults.BadFactor) ⊎ Case f faults.TooLarge (HasOne k stack))
multiply_is k stack faults.StackShape h = inl (refl, h)
multiply_is k stack faults.BadFactor h = inr (inl (refl, h))
multiply_is k stack faults.TooLarge (d, rest, r, is, above, large) = inr (inr (refl, (d, rest, is, above)))
multiply_is k stack _ h = absurd h

empty_never : (k : ℤ) (stack : Stack) → IsFactorFault k stack faults.StackShape → HasOne k stack → ⊥
empty_never k stack none (d, rest, is, above) = empty_top stack d rest none is

below_never : (k : ℤ) (stack : Stack) → IsFactorFault k stack faults.BadFactor → HasOne k stack → ⊥
below_never k stack (some, below) (d, rest, is, above) = omega (arith, ints, below, above)

one_multiply_fault : (k : ℤ) (stack : Stack) (f g : StepFault) → IsMultiplyFault k stack f → IsMultiplyFault k stack g → f ≡ g
one_multiply_fault k stack f g h j =
    one_of_three f g faults.StackShape faults.BadFactor faults.TooLarge (IsFactorFault k stack faults.StackShape) (IsFactorFault k stack faults.BadFactor) (HasOne k stack)
    (λ none some. some.0 none) (empty_never k stack) (below_never k stack) (multiply_is k stack f h) (multiply_is k stack g j)

one_item_fault : (given : Given) (i : Item) (stack : Stack) (f g : StepFault) → IsItemFault given i stack f → IsItemFault given i stack g → f ≡ g
one_item_fault given (items.Id id) stack f g h j = id_is given id f h ∙ sym (id_is given id g j)
one_item_fault given (items.Axiom l) stack f g h j = absurd h
one_item_fault given items.Add stack f g h j =
    one_of_two f g faults.StackShape faults.TooLarge (IsAddFault stack faults.StackShape) (HasTwo stack) (few_never stack) (add_is stack f h) (add_is stack g j)
one_item_fault given (items.Multiply k) stack f g h j = one_multiply_fault k stack f g h j
one_item_fault given (items.Divide k) stack f g h j = one_factor_fault k stack f g h j
one_item_fault given items.Saturate stack f g h j = shape_is stack f h ∙ sym (shape_is stack g j)
one_item_fault given (items.Weaken x) stack f g h j = shape_is stack f h ∙ sym (shape_is stack g j)

-- two places of one text at which a run stops
one_stop : (given : Given) (old s u : Stack) (xs ys bs cs : List Item) (i j : Item) (f g : StepFault) → xs ++ i ∷ bs ≡ ys ++ j ∷ cs
    → Runs given xs old s → Runs given ys old u → IsItemFault given i s f → IsItemFault given j u g → f ≡ g
one_stop given old s u [] [] bs cs i j f g same is also h k =
    let items : i ≡ j = cc in
    one_item_fault given j old f g (subst (λ x. IsItemFault given x old f) items (subst (λ z. IsItemFault given i z f) is h)) (subst (λ z. IsItemFault given j z g) also k)
one_stop given old s u [] (y ∷ ys) bs cs i j f g same is (between, step, runs) h k =
    let items : i ≡ y = cc in
    absurd (stuck given y old between f (subst (λ x. IsItemFault given x old f) items (subst (λ z. IsItemFault given i z f) is h)) step)
one_stop given old s u (x ∷ xs) [] bs cs i j f g same (between, step, runs) also h k =
    let items : j ≡ x = cc in
    absurd (stuck given x old between g (subst (λ z. IsItemFault given z old g) items (subst (λ z. IsItemFault given j z g) also k)) step)
one_stop given old s u (x ∷ xs) (y ∷ ys) bs cs i j f g same (between, step, runs) (other, step', runs') h k =
    let items : y ≡ x = cc in
    let rest : xs ++ i ∷ bs ≡ ys ++ j ∷ cs = cc in
    let stacks : other ≡ between = one_step given x old other between (subst (λ z. AppliesItem given z old other) items step') step in
    one_stop given between s u xs ys bs cs i j f g rest runs (subst (λ z. Runs given ys z u) stacks runs') h k

one_stopping : (given : Given) (written : List Item) (f g : StepFault) → StopsAtItem given written f → StopsAtItem given written g → f ≡ g
one_stopping given written f g (before, i, behind, stack, is, runs, h) (before', j, behind', stack', is', runs', k) =
    one_stop given [] stack stack' before before' behind behind' i j f g (sym is ∙ is') runs runs' h k

-- a run that stops does not run to the end
runs_never : (given : Given) (written : List Item) (f : StepFault) → StopsAtItem given written f → LeavesOther given written → ⊥
runs_never given written f (before, i, behind, stack, is, runs, h) (end, whole, not_one) =
    let p = parts given before (i ∷ behind) [] end (subst (λ w. Runs given w [] end) is whole) in
    let same : stack ≡ p.0 = one_run given before [] stack p.0 runs p.1 in
    stuck given i p.0 p.2.0 f (subst (λ z. IsItemFault given i z f) same h) p.2.1

-- the faults of a `pol` step: a run that stops, what is left, the ids
abbrev HasValueOf : State → List Item → Type 0
HasValueOf s written = (n : NormalConstraint) × IsPostfixOf (constraint_of s) written n

abbrev PolCase : State → List Item → StepFault → Type 0
PolCase s written f = StopsAtItem (constraint_of s) written f ⊎ (Case f faults.StackShape (LeavesOther (constraint_of s) written) ⊎ Case f faults.TooManyIds (HasValueOf s written))

shape_case : (s : State) (written : List Item) → StopsAtItem (constraint_of s) written faults.StackShape ⊎ LeavesOther (constraint_of s) written → PolCase s written faults.StackShape
shape_case s written (inl stops) = inl stops
shape_case s written (inr leaves) = inr (inl (refl, leaves))

pol_is : (s : State) (written : List Item) (f : StepFault) → IsPolFault s written f → PolCase s written f
pol_is s written faults.TooManyIds (n, polish, full) = inr (inr (refl, (n, polish)))
pol_is s written faults.StackShape h = shape_case s written h
pol_is s written _ h = inl h

stopped_valued : (s : State) (written : List Item) (f : StepFault) → StopsAtItem (constraint_of s) written f → HasValueOf s written → ⊥
stopped_valued s written f stops (n, polish) = writing_never (constraint_of s) written n f (stops_writing (constraint_of s) written f stops) polish

left_valued : (s : State) (written : List Item) → LeavesOther (constraint_of s) written → HasValueOf s written → ⊥
left_valued s written leaves (n, polish) =
    writing_never (constraint_of s) written n faults.StackShape (leaves_writing (constraint_of s) written faults.StackShape refl leaves) polish

one_pol_case : (s : State) (written : List Item) (f g : StepFault) → PolCase s written f → PolCase s written g → f ≡ g
one_pol_case s written f g (inl h) (inl k) = one_stopping (constraint_of s) written f g h k
one_pol_case s written f g (inl h) (inr (inl k)) = absurd (runs_never (constraint_of s) written f h k.1)
one_pol_case s written f g (inl h) (inr (inr k)) = absurd (stopped_valued s written f h k.1)
one_pol_case s written f g (inr (inl h)) (inl k) = absurd (runs_never (constraint_of s) written g k h.1)
one_pol_case s written f g (inr (inr h)) (inl k) = absurd (stopped_valued s written g k h.1)
one_pol_case s written f g (inr h) (inr k) =
    one_of_two f g faults.StackShape faults.TooManyIds (LeavesOther (constraint_of s) written) (HasValueOf s written) (left_valued s written) h k

pub one_pol_fault : (s : State) (written : List Item) (f g : StepFault) → IsPolFault s written f → IsPolFault s written g → f ≡ g
one_pol_fault s written f g h k = one_pol_case s written f g (pol_is s written f h) (pol_is s written g k)

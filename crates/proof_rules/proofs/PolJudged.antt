-- A `pol` step is legal or has a fault, where the variables of the live constraints rise.
use Rattle.std.proofs.Common.{◌≡◌, ◌≢◌, ◌<◌, ◌⊎◌, inl, inr, ℤ, pos, ◌<ℤ◌, ◌≤ℤ◌, List, [], ◌∷◌, ◌++◌, Option, Some, None, length, unsigned_abs, refl, sym, ap, subst, append_assoc, arith}
use Rattle.std.proofs.lemmas.Int.{ints}
use Rattle.std.proofs.lemmas.List.{append-nil}
use Rattle.linear.specs.declared.term.Var.{Var}
use Rattle.normal_form.specs.Normal.{NormalConstraint, Fits, Rises}
use Rattle.cut_rules.specs.Rules.{IsSum, IsMultiple}
use Rattle.proof_rules.specs.declared.fault.StepFault.{StepFault}
use Rattle.proof_rules.specs.declared.fault.StepFault.TheVariants as faults
use Rattle.proof_steps.specs.declared.step.Item.{Item}
use Rattle.proof_steps.specs.declared.step.Item.TheVariants as items
use Rattle.proof_rules.specs.Expression.{Given, IsPostfixOf}
use Rattle.proof_rules.specs.Running.{LeavesStack, AppliesItem, Runs}
use Rattle.proof_rules.specs.Fault.{IsItemFault, IsPolFault}
use Rattle.proof_rules.specs.Legal.{LegalPol}
use Rattle.proof_rules.specs.Preserved.{AreNormal}
use Rattle.proof_rules.specs.State.{State, constraint_of, id_of, HasRoom, with_constraint}
use Rattle.proof_rules.proofs.Deciding.{Decided, Judged, less_or_not}
use Rattle.proof_rules.proofs.PolFaults.{stops_writing, leaves_writing, writing_pol}
use Rattle.proof_rules.proofs.LiveConstraints.{All-get}
use Rattle.proof_rules.proofs.Postfix.{LeavesStack-push, IsPostfixOf-from_LeavesStack}
use Rattle.proof_rules.proofs.ResultsExist.{sum_exists, multiple_exists, quotient_exists, saturation_exists, weakening_exists, axiom_exists}
use Rattle.proof_rules.proofs.ShownOrNot.{fits_decided, room_decided}

abbrev Stack : Type 0
Stack = List NormalConstraint

-- the variables of each constraint on a stack rise
abbrev AreRising : Stack → Type 0
AreRising [] = Unit {0}
AreRising (n ∷ ns) = Rises 0 n.terms × AreRising ns

-- an item leads on, or has a fault
abbrev ItemJudged : Given → Item → Stack → Type 0
ItemJudged given i old = ((new : Stack) × AppliesItem given i old new × AreRising new) ⊎ ((f : StepFault) × IsItemFault given i old f)

id_judged : (given : Given) (id : ℤ) (old : Stack) (o : Option NormalConstraint) → given id ≡ o → ((n : NormalConstraint) → given id ≡ Some n → Rises 0 n.terms)
    → AreRising old → ItemJudged given (items.Id id) old
id_judged given id old None is each up = inr (faults.DeadId, is)
id_judged given id old (Some n) is each up = inl (n ∷ old, (n, is, refl), (each n is, up))

add_fits : (given : Given) (g d r : NormalConstraint) (rest : Stack) → AreRising rest → IsSum d g r → Decided (Fits r) → ItemJudged given items.Add (g ∷ d ∷ rest)
add_fits given g d r rest up rule (inl fits) = inl (r ∷ rest, (d, g, r, rest, refl, rule, fits, refl), (rule.rises, up))
add_fits given g d r rest up rule (inr breaks) = inr (faults.TooLarge, (d, g, rest, r, refl, record { given = rule; breaks = breaks }))

add_judged : (given : Given) (old : Stack) → AreRising old → ItemJudged given items.Add old
add_judged given [] up = inr (faults.StackShape, omega arith)
add_judged given (g ∷ []) up = inr (faults.StackShape, omega arith)
add_judged given (g ∷ d ∷ rest) (g_up, (d_up, up)) =
    let r = sum_exists d g in add_fits given g d r.0 rest up r.1 (fits_decided r.0)

not_empty : (n : NormalConstraint) (ns : Stack) → n ∷ ns ≢ []
not_empty n ns is = absurd (cc)

below_one : (k : ℤ) → k ≤ℤ pos 0 → k <ℤ pos 1
below_one k h = omega (arith, ints, h)

size_above : (k : ℤ) → pos 0 <ℤ k → 0 < unsigned_abs k
size_above k h = omega (arith, ints, h)

multiply_fits : (given : Given) (k : ℤ) (d r : NormalConstraint) (rest : Stack) → AreRising rest → pos 0 <ℤ k → IsMultiple (unsigned_abs k) d r → Decided (Fits r)
    → ItemJudged given (items.Multiply k) (d ∷ rest)
multiply_fits given k d r rest up above rule (inl fits) = inl (r ∷ rest, (d, r, rest, refl, above, rule, fits, refl), (rule.rises, up))
multiply_fits given k d r rest up above rule (inr breaks) = inr (faults.TooLarge, (d, rest, r, refl, above, record { given = rule; breaks = breaks }))

multiply_judged : (given : Given) (k : ℤ) (old : Stack) → AreRising old → (pos 0 <ℤ k) ⊎ (k ≤ℤ pos 0) → ItemJudged given (items.Multiply k) old
multiply_judged given k [] up factor = inr (faults.StackShape, refl)
multiply_judged given k (d ∷ rest) (d_up, up) (inr low) = inr (faults.BadFactor, (not_empty d rest, below_one k low))
multiply_judged given k (d ∷ rest) (d_up, up) (inl above) =
    let r = multiple_exists (unsigned_abs k) d d_up in multiply_fits given k d r.0 rest up above r.1 (fits_decided r.0)

divide_judged : (given : Given) (k : ℤ) (old : Stack) → AreRising old → (pos 0 <ℤ k) ⊎ (k ≤ℤ pos 0) → ItemJudged given (items.Divide k) old
divide_judged given k [] up factor = inr (faults.StackShape, refl)
divide_judged given k (d ∷ rest) (d_up, up) (inr low) = inr (faults.BadFactor, (not_empty d rest, below_one k low))
divide_judged given k (d ∷ rest) (d_up, up) (inl above) =
    let r = quotient_exists (unsigned_abs k) d (size_above k above) d_up in
    inl (r.0 ∷ rest, (d, r.0, rest, refl, above, r.1, refl), (r.1.rises, up))

saturate_judged : (given : Given) (old : Stack) → AreRising old → ItemJudged given items.Saturate old
saturate_judged given [] up = inr (faults.StackShape, refl)
saturate_judged given (d ∷ rest) (d_up, up) =
    let r = saturation_exists d d_up in inl (r.0 ∷ rest, (d, r.0, rest, refl, r.1, refl), (r.1.rises, up))

weaken_judged : (given : Given) (x : Var) (old : Stack) → AreRising old → ItemJudged given (items.Weaken x) old
weaken_judged given x [] up = inr (faults.StackShape, refl)
weaken_judged given x (d ∷ rest) (d_up, up) =
    let r = weakening_exists (x.0) d d_up in inl (r.0 ∷ rest, (d, r.0, rest, refl, r.1, refl), (r.1.rises, up))

-- the variables of all given constraints rise
abbrev AllRise : Given → Type 0
AllRise given = (id : ℤ) (n : NormalConstraint) → given id ≡ Some n → Rises 0 n.terms

item_judged : (given : Given) → AllRise given → (i : Item) (old : Stack) → AreRising old → ItemJudged given i old
item_judged given each (items.Id id) old up = id_judged given id old (given id) refl (each id) up
item_judged given each (items.Axiom l) old up = let r = axiom_exists l in inl (r.0 ∷ old, (r.0, r.1, refl), (r.1.rises, up))
item_judged given each items.Add old up = add_judged given old up
item_judged given each (items.Multiply k) old up = multiply_judged given k old up (less_or_not (pos 0) k)
item_judged given each (items.Divide k) old up = divide_judged given k old up (less_or_not (pos 0) k)
item_judged given each items.Saturate old up = saturate_judged given old up
item_judged given each (items.Weaken x) old up = weaken_judged given x old up

-- the items before one run, and that one has a fault
abbrev Stops : Given → List Item → Stack → StepFault → Type 0
Stops given written old f =
    (before : List Item) × (i : Item) × (behind : List Item) × (stack : Stack) × (written ≡ before ++ i ∷ behind) × Runs given before old stack × IsItemFault given i stack f

abbrev RunJudged : Given → List Item → Stack → Type 0
RunJudged given written old = ((new : Stack) × Runs given written old new) ⊎ ((f : StepFault) × Stops given written old f)

more_items : (given : Given) (i : Item) (rest : List Item) (old between : Stack) → AppliesItem given i old between → RunJudged given rest between → RunJudged given (i ∷ rest) old
more_items given i rest old between step (inl (new, runs)) = inl (new, (between, step, runs))
more_items given i rest old between step (inr (f, (before, j, behind, stack, is, runs, fault))) =
    inr (f, (i ∷ before, j, behind, stack, ap (λ xs. i ∷ xs) is, (between, step, runs), fault))

run_judged : (given : Given) → AllRise given → (written : List Item) (old : Stack) → AreRising old → RunJudged given written old
run_judged given each [] old up = inl (old, refl)
run_judged given each (i ∷ rest) old up = elim (item_judged given each i old up) as (λ _. RunJudged given (i ∷ rest) old) [
  | inl h ↦ more_items given i rest old h.0 h.1 (run_judged given each rest h.0 h.2)
  | inr h ↦ inr (h.0, ([], i, rest, old, refl, refl, h.1))
]

written_on : (given : Given) (before written : List Item) (old new : Stack) → LeavesStack given before old → Runs given written old new → LeavesStack given (before ++ written) new
written_on given before [] old new w is = subst (λ text. LeavesStack given text new) (sym (append-nil before)) (subst (LeavesStack given before) (sym is) w)
written_on given before (i ∷ rest) old new w (between, step, runs) =
    subst (λ text. LeavesStack given text new) (append_assoc before (i ∷ []) rest)
    (written_on given (before ++ i ∷ []) rest between new (LeavesStack-push given before i old between step w) runs)

other : (s : State) (written : List Item) (stack : Stack) → Runs (constraint_of s) written [] stack → (length stack ≢ 1) → Judged (LegalPol s written) (IsPolFault s written)
other s written stack runs not_one =
    inr (faults.StackShape, writing_pol s written faults.StackShape (leaves_writing (constraint_of s) written faults.StackShape refl (stack, runs, not_one)))

one_left : (s : State) (written : List Item) (n : NormalConstraint) → IsPostfixOf (constraint_of s) written n → Decided (HasRoom s) → Judged (LegalPol s written) (IsPolFault s written)
one_left s written n polish (inl room) = inl (with_constraint n s, (n, polish, (room, refl)))
one_left s written n polish (inr full) = inr (faults.TooManyIds, (n, polish, full))

left : (s : State) (written : List Item) (stack : Stack) → Runs (constraint_of s) written [] stack → Judged (LegalPol s written) (IsPolFault s written)
left s written [] runs = other s written [] runs (λ h. omega (arith, h))
left s written (n ∷ []) runs =
    one_left s written n (IsPostfixOf-from_LeavesStack (constraint_of s) written n (written_on (constraint_of s) [] written [] (n ∷ []) refl runs)) (room_decided s)
left s written (n ∷ m ∷ rest) runs = other s written (n ∷ m ∷ rest) runs (λ h. omega (arith, h))

from_run : (s : State) (written : List Item) → RunJudged (constraint_of s) written [] → Judged (LegalPol s written) (IsPolFault s written)
from_run s written (inl (stack, runs)) = left s written stack runs
from_run s written (inr (f, stops)) = inr (f, writing_pol s written f (stops_writing (constraint_of s) written f stops))

pub pol_judged : (s : State) (written : List Item) → AreNormal s → Judged (LegalPol s written) (IsPolFault s written)
pol_judged s written normal =
    from_run s written (run_judged (constraint_of s) (λ id n is. All-get (λ m. Rises 0 m.terms) s.live (id_of s.next id) n normal is) written [] tt)

-- A step has at most one fault.
use Rattle.std.proofs.Common.{◌≡◌, ◌≢◌, ℕ, ◌⊎◌, inl, inr, ℤ, ◌<ℤ◌, Bool, List, [], ◌∷◌, ◌++◌, Option, Some, None, All, IfSome, length, refl, sym, ap, subst, ◌∙◌, arith}
use Rattle.std.proofs.lemmas.Bool.{cases_order}
use Rattle.linear.specs.declared.constraint.Signed.{Signed}
use Rattle.linear.specs.declared.term.Lit.{Lit}
use Rattle.linear.specs.Opb.{Opb}
use Rattle.normal_form.specs.Normal.{NormalConstraint, Fits}
use Rattle.normal_form.specs.Negation.{IsNegation}
use Rattle.normal_form.proofs.Negations.{one_negation}
use Rattle.substitution.specs.Images.{Images}
use Rattle.proof_rules.specs.declared.fault.StepFault.{StepFault}
use Rattle.proof_rules.specs.declared.fault.StepFault.TheVariants as faults
use Rattle.proof_steps.specs.declared.step.GoalName.{GoalName}
use Rattle.proof_steps.specs.declared.step.Step.{Step}
use Rattle.proof_steps.specs.declared.step.Step.TheVariants as steps
use Rattle.proof_rules.specs.Block.{Asks, AreLiveShown}
use Rattle.proof_rules.specs.Fault.{IsAdmissionFault, IsRupFault, IsGoalFault, IsOpenGoal, IsRedFault, IsSolFault, IsNotBetter, IsSoliFault, IsDelFault, IsStepFault, IsOutsideFault, IsInsideFault, IsRedBeginFault, IsProofGoalFault, IsUnopenedFault, IsBlockEndFault, IsGoalEndFault, IsEndFault}
use Rattle.proof_rules.specs.Legal.{Logs, worth_of}
use Rattle.proof_rules.specs.Redundant.{IsShownUnder}
use Rattle.proof_rules.specs.Shown.{IsAdmitted}
use Rattle.proof_rules.specs.Solution.{Completes}
use Rattle.proof_rules.specs.State.{State, Block, constraints, HasRoom, IsOutside}
use Rattle.proof_rules.proofs.Completing.{gap_never}
use Rattle.proof_rules.proofs.LiveConstraints.{All-get}
use Rattle.proof_rules.proofs.NotLegal.{admitted_never, one_admitted, one_asked, one_block, none_some, sol_never, less_never}
use Rattle.proof_rules.proofs.OnePolFault.{Case, one_of_two, one_of_three, one_pol_fault}

-- a written constraint

abbrev Admitted : Signed → Type 0
Admitted c = (n : NormalConstraint) × IsAdmitted c n

admission_is : (s : State) (c : Signed) (f : StepFault) → IsAdmissionFault s c f → Case f faults.TooLarge (Admitted c → ⊥) ⊎ Case f faults.TooManyIds (Admitted c)
admission_is s c faults.TooLarge h = inl (refl, λ some. h some.0 some.1)
admission_is s c faults.TooManyIds h = inr (refl, h.0)
admission_is s c _ h = absurd h

one_admission_fault : (s : State) (c : Signed) (f g : StepFault) → IsAdmissionFault s c f → IsAdmissionFault s c g → f ≡ g
one_admission_fault s c f g h k =
    one_of_two f g faults.TooLarge faults.TooManyIds (Admitted c → ⊥) (Admitted c) (λ none some. none some) (admission_is s c f h) (admission_is s c g k)

-- rup

abbrev HasPlace : State → Signed → Type 0
HasPlace s c = (n : NormalConstraint) × IsAdmitted c n × HasRoom s

rup_is : (s : State) (c : Signed) (f : StepFault) → IsRupFault s c f → Case f faults.NotShown (HasPlace s c) ⊎ IsAdmissionFault s c f
rup_is s c faults.NotShown (n, admitted, room, not) = inl (refl, (n, admitted, room))
rup_is s c _ h = inr h

one_rup_case : (s : State) (c : Signed) (f g : StepFault) → Case f faults.NotShown (HasPlace s c) ⊎ IsAdmissionFault s c f → Case g faults.NotShown (HasPlace s c) ⊎ IsAdmissionFault s c g → f ≡ g
one_rup_case s c f g (inl h) (inl k) = h.0 ∙ sym k.0
one_rup_case s c f g (inl (is, (n, admitted, room))) (inr k) = absurd (admitted_never s c n g k admitted room)
one_rup_case s c f g (inr h) (inl (is, (n, admitted, room))) = absurd (admitted_never s c n f h admitted room)
one_rup_case s c f g (inr h) (inr k) = one_admission_fault s c f g h k

one_rup_fault : (s : State) (c : Signed) (f g : StepFault) → IsRupFault s c f → IsRupFault s c g → f ≡ g
one_rup_fault s c f g h k = one_rup_case s c f g (rup_is s c f h) (rup_is s c g k)

-- red: the first id whose constraint is not shown, then the new constraint, then the objective

abbrev LiveOpen : Opb → State → List NormalConstraint → Images → NormalConstraint → StepFault → Type 0
LiveOpen p s from images n f = (id : ℕ) × (f ≡ faults.GoalOpen id) × IsGoalFault p s from images n (faults.GoalOpen id)

one_id : (p : Opb) (s : State) (from : List NormalConstraint) (images : Images) (n : NormalConstraint) (i j : ℕ)
    → IsGoalFault p s from images n (faults.GoalOpen i) → IsGoalFault p s from images n (faults.GoalOpen j) → i ≡ j
one_id p s from images n i j (e, is, not, before) (d, is', not', before') = elim (cases_order i j) as (λ _. i ≡ j) [
  | inl same ↦ same
  | inr (inl less) ↦ absurd (not (before' i e (omega (arith, less)) is))
  | inr (inr more) ↦ absurd (not' (before j d (omega (arith, more)) is'))
]

one_live : (p : Opb) (s : State) (from : List NormalConstraint) (images : Images) (n : NormalConstraint) (f g : StepFault) → LiveOpen p s from images n f → LiveOpen p s from images n g → f ≡ g
one_live p s from images n f g (i, is, open_i) (j, is', open_j) = is ∙ ap (λ id. faults.GoalOpen id) (one_id p s from images n i j open_i open_j) ∙ sym is'

abbrev LiveShown : State → List NormalConstraint → Images → Type 0
LiveShown s from images = All (IsShownUnder from images) (constraints s)

live_never : (p : Opb) (s : State) (from : List NormalConstraint) (images : Images) (n : NormalConstraint) (f : StepFault) → LiveOpen p s from images n f → LiveShown s from images → ⊥
live_never p s from images n f (id, is, (e, there, not, before)) all = not (All-get (IsShownUnder from images) s.live id e all there)

abbrev OtherOpen : Opb → State → List NormalConstraint → Images → NormalConstraint → StepFault → Type 0
OtherOpen p s from images n f =
    Case f faults.GoalOpenSelf (IsGoalFault p s from images n faults.GoalOpenSelf) ⊎ Case f faults.GoalOpenObjective (IsGoalFault p s from images n faults.GoalOpenObjective)

goal_is : (p : Opb) (s : State) (from : List NormalConstraint) (images : Images) (n : NormalConstraint) (f : StepFault)
    → IsGoalFault p s from images n f → LiveOpen p s from images n f ⊎ OtherOpen p s from images n f
goal_is p s from images n (faults.GoalOpen id) h = inl (id, refl, h)
goal_is p s from images n faults.GoalOpenSelf h = inr (inl (refl, h))
goal_is p s from images n faults.GoalOpenObjective h = inr (inr (refl, h))
goal_is p s from images n _ h = absurd h

all_live : (p : Opb) (s : State) (from : List NormalConstraint) (images : Images) (n : NormalConstraint) (f : StepFault) → OtherOpen p s from images n f → LiveShown s from images
all_live p s from images n f (inl h) = h.1.0
all_live p s from images n f (inr h) = h.1.0

one_goal_case : (p : Opb) (s : State) (from : List NormalConstraint) (images : Images) (n : NormalConstraint) (f g : StepFault)
    → LiveOpen p s from images n f ⊎ OtherOpen p s from images n f → LiveOpen p s from images n g ⊎ OtherOpen p s from images n g → f ≡ g
one_goal_case p s from images n f g (inl h) (inl k) = one_live p s from images n f g h k
one_goal_case p s from images n f g (inl h) (inr k) = absurd (live_never p s from images n f h (all_live p s from images n g k))
one_goal_case p s from images n f g (inr h) (inl k) = absurd (live_never p s from images n g k (all_live p s from images n f h))
one_goal_case p s from images n f g (inr h) (inr k) =
    one_of_two f g faults.GoalOpenSelf faults.GoalOpenObjective (IsGoalFault p s from images n faults.GoalOpenSelf) (IsGoalFault p s from images n faults.GoalOpenObjective)
    (λ own objective. own.1 objective.1) h k

one_goal_fault : (p : Opb) (s : State) (from : List NormalConstraint) (images : Images) (n : NormalConstraint) (f g : StepFault)
    → IsGoalFault p s from images n f → IsGoalFault p s from images n g → f ≡ g
one_goal_fault p s from images n f g h k = one_goal_case p s from images n f g (goal_is p s from images n f h) (goal_is p s from images n g k)

one_open_goal : (p : Opb) (s : State) (c : Signed) (images : Images) (f g : StepFault) → IsOpenGoal p s c images f → IsOpenGoal p s c images g → f ≡ g
one_open_goal p s c images f g (n, m, admitted, room, negated, h) (k, j, admitted', room', negated', i) =
    let same : k ≡ n = one_admitted c k n admitted' admitted in
    let other : j ≡ m = one_negation n j m admitted.form.rises (subst (λ z. IsNegation z j) same negated') negated in
    let goal : IsGoalFault p s (constraints s ++ m ∷ []) images n g =
    subst (λ z. IsGoalFault p s (constraints s ++ z ∷ []) images n g) other (subst (λ z. IsGoalFault p s (constraints s ++ j ∷ []) images z g) same i) in
    one_goal_fault p s (constraints s ++ m ∷ []) images n f g h goal

one_red_fault : (p : Opb) (s : State) (c : Signed) (images : Images) (f g : StepFault) → IsRedFault p s c images f → IsRedFault p s c images g → f ≡ g
one_red_fault p s c images f g (inl h) (inl k) = one_admission_fault s c f g h k
one_red_fault p s c images f g (inl h) (inr (n, m, admitted, room, negated, goal)) = absurd (admitted_never s c n f h admitted room)
one_red_fault p s c images f g (inr (n, m, admitted, room, negated, goal)) (inl k) = absurd (admitted_never s c n g k admitted room)
one_red_fault p s c images f g (inr h) (inr k) = one_open_goal p s c images f g h k

-- sol

abbrev Conflicts : Opb → State → List Lit → Type 0
Conflicts p s assigned = IsSolFault p s assigned faults.SolutionConflict

abbrev Completed : Opb → State → List Lit → Type 0
Completed p s assigned = (g : List Bool) × Completes (constraints s) (length p.names) assigned g

abbrev IsPartial : Opb → State → List Lit → Type 0
IsPartial p s assigned = IsSolFault p s assigned faults.SolutionPartial

sol_is : (p : Opb) (s : State) (assigned : List Lit) (f : StepFault) → IsSolFault p s assigned f
    → Case f faults.SolutionConflict (Conflicts p s assigned) ⊎ (Case f faults.SolutionPartial (IsPartial p s assigned) ⊎ Case f faults.SolutionFalse (Completed p s assigned))
sol_is p s assigned faults.SolutionConflict h = inl (refl, h)
sol_is p s assigned faults.SolutionPartial h = inr (inl (refl, h))
sol_is p s assigned faults.SolutionFalse h = inr (inr (refl, h.0))
sol_is p s assigned _ h = absurd h

conflict_partial : (p : Opb) (s : State) (assigned : List Lit) → Conflicts p s assigned → IsPartial p s assigned → ⊥
conflict_partial p s assigned (inl not) partial = not partial.0
conflict_partial p s assigned (inr (consistent, not_all, leads)) partial = partial.1 leads

conflict_completed : (p : Opb) (s : State) (assigned : List Lit) → Conflicts p s assigned → Completed p s assigned → ⊥
conflict_completed p s assigned (inl not) (g, c) = not c.consistent
conflict_completed p s assigned (inr (consistent, not_all, leads)) (g, c) = elim (c.completed) as (λ _. ⊥) [ inl h ↦ not_all h.0 | inr h ↦ h.1 leads ]

partial_completed : (p : Opb) (s : State) (assigned : List Lit) → IsPartial p s assigned → Completed p s assigned → ⊥
partial_completed p s assigned (consistent, free, (v, below, none)) (g, c) = gap_never (constraints s) (length p.names) assigned v below none g c

pub one_sol_fault : (p : Opb) (s : State) (assigned : List Lit) (f g : StepFault) → IsSolFault p s assigned f → IsSolFault p s assigned g → f ≡ g
one_sol_fault p s assigned f g h k =
    one_of_three f g faults.SolutionConflict faults.SolutionPartial faults.SolutionFalse (Conflicts p s assigned) (IsPartial p s assigned) (Completed p s assigned)
    (conflict_partial p s assigned) (conflict_completed p s assigned) (partial_completed p s assigned) (sol_is p s assigned f h) (sol_is p s assigned g k)

-- soli

abbrev NotBetter : Opb → State → List Lit → Type 0
NotBetter p s assigned = ((g : List Bool) × Logs p s assigned g) × ((g : List Bool) → Logs p s assigned g → IsNotBetter p s g)

abbrev Better : Opb → State → List Lit → Type 0
Better p s assigned = (g : List Bool) × Logs p s assigned g × IfSome s.least (λ least. worth_of p g <ℤ least)

not_better : (p : Opb) (s : State) (assigned : List Lit) → NotBetter p s assigned → Better p s assigned → ⊥
not_better p s assigned (some, all) (g, logs, better) =
    let worse = all g logs in
    less_never (worth_of p g) worse.0 (subst (λ o. IfSome o (λ least. worth_of p g <ℤ least)) worse.1 better) worse.2

abbrev SoliCase : Opb → State → List Lit → StepFault → Type 0
SoliCase p s assigned f = IsSolFault p s assigned f ⊎ (Case f faults.NotImproving (NotBetter p s assigned) ⊎ Case f faults.TooManyIds (Better p s assigned))

soli_is : (p : Opb) (s : State) (assigned : List Lit) (f : StepFault) → IsSoliFault p s assigned f → Case f faults.NoObjective (p.objective ≡ None) ⊎ ((p.objective ≢ None) × SoliCase p s assigned f)
soli_is p s assigned faults.NoObjective h = inl (refl, h)
soli_is p s assigned faults.NotImproving h = inr (h.0, inr (inl (refl, (h.1, h.2))))
soli_is p s assigned faults.TooManyIds h = inr (h.0, inr (inr (refl, h.1)))
soli_is p s assigned _ h = inr (h.0, inl h.1)

solved : (p : Opb) (s : State) (assigned : List Lit) (f : StepFault) → Case f faults.NotImproving (NotBetter p s assigned) ⊎ Case f faults.TooManyIds (Better p s assigned) → (g : List Bool) × Logs p s assigned g
solved p s assigned f (inl h) = h.1.0
solved p s assigned f (inr h) = (h.1.0, h.1.1)

one_soli_case : (p : Opb) (s : State) (assigned : List Lit) (f g : StepFault) → SoliCase p s assigned f → SoliCase p s assigned g → f ≡ g
one_soli_case p s assigned f g (inl h) (inl k) = one_sol_fault p s assigned f g h k
one_soli_case p s assigned f g (inl h) (inr k) = let some = solved p s assigned g k in absurd (sol_never p s assigned some.0 f h some.1)
one_soli_case p s assigned f g (inr h) (inl k) = let some = solved p s assigned f h in absurd (sol_never p s assigned some.0 g k some.1)
one_soli_case p s assigned f g (inr h) (inr k) =
    one_of_two f g faults.NotImproving faults.TooManyIds (NotBetter p s assigned) (Better p s assigned) (not_better p s assigned) h k

one_behind_objective : (p : Opb) (s : State) (assigned : List Lit) (f g : StepFault) → Case f faults.NoObjective (p.objective ≡ None) ⊎ ((p.objective ≢ None) × SoliCase p s assigned f)
    → Case g faults.NoObjective (p.objective ≡ None) ⊎ ((p.objective ≢ None) × SoliCase p s assigned g) → f ≡ g
one_behind_objective p s assigned f g (inl h) (inl k) = h.0 ∙ sym k.0
one_behind_objective p s assigned f g (inl h) (inr k) = absurd (k.0 h.1)
one_behind_objective p s assigned f g (inr h) (inl k) = absurd (h.0 k.1)
one_behind_objective p s assigned f g (inr h) (inr k) = one_soli_case p s assigned f g h.1 k.1

pub one_soli_fault : (p : Opb) (s : State) (assigned : List Lit) (f g : StepFault) → IsSoliFault p s assigned f → IsSoliFault p s assigned g → f ≡ g
one_soli_fault p s assigned f g h k = one_behind_objective p s assigned f g (soli_is p s assigned f h) (soli_is p s assigned g k)

-- del

dead : (s : State) (ids : List ℤ) (f : StepFault) → IsDelFault s ids f → f ≡ faults.DeadId
dead s ids faults.DeadId h = refl
dead s ids _ h = absurd h

pub one_del_fault : (s : State) (ids : List ℤ) (f g : StepFault) → IsDelFault s ids f → IsDelFault s ids g → f ≡ g
one_del_fault s ids f g h k = dead s ids f h ∙ sym (dead s ids g k)

-- what may stand outside blocks alone, and what in a block alone

outside_is : (s : State) (IsFault : StepFault → Type 0) (f : StepFault) → IsOutsideFault s IsFault f → Case f faults.BlockOpen (s.block ≢ None) ⊎ (IsOutside s × IsFault f)
outside_is s IsFault faults.BlockOpen h = inl (refl, h)
outside_is s IsFault _ h = inr h

outside_case : (s : State) (IsFault : StepFault → Type 0) (f g : StepFault) → ((f g : StepFault) → IsFault f → IsFault g → f ≡ g)
    → Case f faults.BlockOpen (s.block ≢ None) ⊎ (IsOutside s × IsFault f) → Case g faults.BlockOpen (s.block ≢ None) ⊎ (IsOutside s × IsFault g) → f ≡ g
outside_case s IsFault f g one (inl h) (inl k) = h.0 ∙ sym k.0
outside_case s IsFault f g one (inl h) (inr k) = absurd (h.1 k.0)
outside_case s IsFault f g one (inr h) (inl k) = absurd (k.1 h.0)
outside_case s IsFault f g one (inr h) (inr k) = one f g h.1 k.1

pub one_outside : (s : State) (IsFault : StepFault → Type 0) (f g : StepFault) → ((f g : StepFault) → IsFault f → IsFault g → f ≡ g)
    → IsOutsideFault s IsFault f → IsOutsideFault s IsFault g → f ≡ g
one_outside s IsFault f g one h k = outside_case s IsFault f g one (outside_is s IsFault f h) (outside_is s IsFault g k)

abbrev Within : State → (Block → StepFault → Type 0) → StepFault → Type 0
Within s IsFault f = (k : Block) × (s.block ≡ Some k) × IsFault k f

inside_is : (s : State) (IsFault : Block → StepFault → Type 0) (f : StepFault) → IsInsideFault s IsFault f → Case f faults.NoBlock (s.block ≡ None) ⊎ Within s IsFault f
inside_is s IsFault faults.NoBlock h = inl (refl, h)
inside_is s IsFault _ h = inr h

inside_case : (s : State) (IsFault : Block → StepFault → Type 0) (f g : StepFault) → ((k : Block) (f g : StepFault) → IsFault k f → IsFault k g → f ≡ g)
    → Case f faults.NoBlock (s.block ≡ None) ⊎ Within s IsFault f → Case g faults.NoBlock (s.block ≡ None) ⊎ Within s IsFault g → f ≡ g
inside_case s IsFault f g one (inl h) (inl k) = h.0 ∙ sym k.0
inside_case s IsFault f g one (inl h) (inr (k, some, i)) = absurd (none_some s.block k h.1 some)
inside_case s IsFault f g one (inr (k, some, i)) (inl h) = absurd (none_some s.block k h.1 some)
inside_case s IsFault f g one (inr (k, some, h)) (inr (j, some', i)) = one k f g h (subst (λ x. IsFault x g) (one_block s.block j k some' some) i)

one_inside : (s : State) (IsFault : Block → StepFault → Type 0) (f g : StepFault) → ((k : Block) (f g : StepFault) → IsFault k f → IsFault k g → f ≡ g)
    → IsInsideFault s IsFault f → IsInsideFault s IsFault g → f ≡ g
one_inside s IsFault f g one h k = inside_case s IsFault f g one (inside_is s IsFault f h) (inside_is s IsFault g k)

-- red .. ; begin

abbrev Begins : Signed → Type 0
Begins c = (n : NormalConstraint) × (m : NormalConstraint) × IsAdmitted c n × IsNegation n m × Fits m

begin_is : (s : State) (c : Signed) (f : StepFault) → IsRedBeginFault s c f → Case f faults.TooLarge (Begins c → ⊥) ⊎ Case f faults.TooManyIds (Begins c)
begin_is s c faults.TooLarge h = inl (refl, λ (n, m, admitted, negated, fits). h n m admitted negated fits)
begin_is s c faults.TooManyIds h = inr (refl, h.0)
begin_is s c _ h = absurd h

one_begin_fault : (s : State) (c : Signed) (f g : StepFault) → IsRedBeginFault s c f → IsRedBeginFault s c g → f ≡ g
one_begin_fault s c f g h k =
    one_of_two f g faults.TooLarge faults.TooManyIds (Begins c → ⊥) (Begins c) (λ none some. none some) (begin_is s c f h) (begin_is s c g k)

-- proofgoal

abbrev Unknown : Opb → State → GoalName → Block → Type 0
Unknown p s name k = (r : NormalConstraint) → Asks p s k name r → ⊥

abbrev Unfit : Opb → State → GoalName → Block → Type 0
Unfit p s name k = (r : NormalConstraint) × Asks p s k name r × ((m : NormalConstraint) → IsNegation r m → Fits m → ⊥)

abbrev Opens : Opb → State → GoalName → Block → Type 0
Opens p s name k = (r : NormalConstraint) × (m : NormalConstraint) × Asks p s k name r × IsNegation r m × Fits m

abbrev OpenCase : Opb → State → GoalName → Block → StepFault → Type 0
OpenCase p s name k f = Case f faults.GoalUnknown (Unknown p s name k) ⊎ (Case f faults.TooLarge (Unfit p s name k) ⊎ Case f faults.TooManyIds (Opens p s name k))

open_is : (p : Opb) (s : State) (name : GoalName) (k : Block) (f : StepFault) → IsProofGoalFault p s name k f
    → Case f faults.BlockOpen (k.goal ≢ None) ⊎ ((k.goal ≡ None) × OpenCase p s name k f)
open_is p s name k faults.BlockOpen h = inl (refl, h)
open_is p s name k faults.GoalUnknown h = inr (h.0, inl (refl, h.1))
open_is p s name k faults.TooLarge h = inr (h.0, inr (inl (refl, h.1)))
open_is p s name k faults.TooManyIds h = inr (h.0, inr (inr (refl, h.1)))
open_is p s name k _ h = absurd h

unfit_never : (p : Opb) (s : State) (name : GoalName) (k : Block) → Unfit p s name k → Opens p s name k → ⊥
unfit_never p s name k (r, asks, unfit) (q, m, asks', negated, fits) =
    unfit m (subst (λ x. IsNegation x m) (one_asked p s k name q r asks' asks) negated) fits

open_case : (p : Opb) (s : State) (name : GoalName) (k : Block) (f g : StepFault) → Case f faults.BlockOpen (k.goal ≢ None) ⊎ ((k.goal ≡ None) × OpenCase p s name k f)
    → Case g faults.BlockOpen (k.goal ≢ None) ⊎ ((k.goal ≡ None) × OpenCase p s name k g) → f ≡ g
open_case p s name k f g (inl h) (inl i) = h.0 ∙ sym i.0
open_case p s name k f g (inl h) (inr i) = absurd (h.1 i.0)
open_case p s name k f g (inr h) (inl i) = absurd (i.1 h.0)
open_case p s name k f g (inr h) (inr i) =
    one_of_three f g faults.GoalUnknown faults.TooLarge faults.TooManyIds (Unknown p s name k) (Unfit p s name k) (Opens p s name k)
    (λ none some. none some.0 some.1) (λ none some. none some.0 some.2) (unfit_never p s name k) h.1 i.1

one_open_fault : (p : Opb) (s : State) (name : GoalName) (k : Block) (f g : StepFault) → IsProofGoalFault p s name k f → IsProofGoalFault p s name k g → f ≡ g
one_open_fault p s name k f g h i = open_case p s name k f g (open_is p s name k f h) (open_is p s name k g i)

-- the end of a block: the first id whose constraint is not shown, then the new constraint, then the objective

abbrev UnopenedLive : Opb → State → Block → StepFault → Type 0
UnopenedLive p s k f = (id : ℕ) × (f ≡ faults.GoalOpen id) × IsUnopenedFault p s k (faults.GoalOpen id)

one_unopened_id : (p : Opb) (s : State) (k : Block) (i j : ℕ) → IsUnopenedFault p s k (faults.GoalOpen i) → IsUnopenedFault p s k (faults.GoalOpen j) → i ≡ j
one_unopened_id p s k i j (e, unopened, is, not, before) (d, unopened', is', not', before') = elim (cases_order i j) as (λ _. i ≡ j) [
  | inl same ↦ same
  | inr (inl less) ↦ absurd (not (before' i e (omega (arith, less)) unopened is))
  | inr (inr more) ↦ absurd (not' (before j d (omega (arith, more)) unopened' is'))
]

abbrev UnopenedOther : Opb → State → Block → StepFault → Type 0
UnopenedOther p s k f =
    Case f faults.GoalOpenSelf (IsUnopenedFault p s k faults.GoalOpenSelf) ⊎ Case f faults.GoalOpenObjective (IsUnopenedFault p s k faults.GoalOpenObjective)

unopened_is : (p : Opb) (s : State) (k : Block) (f : StepFault) → IsUnopenedFault p s k f → UnopenedLive p s k f ⊎ UnopenedOther p s k f
unopened_is p s k (faults.GoalOpen id) h = inl (id, refl, h)
unopened_is p s k faults.GoalOpenSelf h = inr (inl (refl, h))
unopened_is p s k faults.GoalOpenObjective h = inr (inr (refl, h))
unopened_is p s k _ h = absurd h

unopened_live : (p : Opb) (s : State) (k : Block) (f : StepFault) → UnopenedOther p s k f → AreLiveShown s k
unopened_live p s k f (inl h) = h.1.0
unopened_live p s k f (inr h) = h.1.0

live_or_other : (p : Opb) (s : State) (k : Block) (f g : StepFault) → UnopenedLive p s k f → UnopenedOther p s k g → ⊥
live_or_other p s k f g (id, is, (e, unopened, there, not, before)) other = not (unopened_live p s k g other id e unopened there)

unopened_case : (p : Opb) (s : State) (k : Block) (f g : StepFault) → UnopenedLive p s k f ⊎ UnopenedOther p s k f → UnopenedLive p s k g ⊎ UnopenedOther p s k g → f ≡ g
unopened_case p s k f g (inl (i, is, h)) (inl (j, is', h')) = is ∙ ap (λ id. faults.GoalOpen id) (one_unopened_id p s k i j h h') ∙ sym is'
unopened_case p s k f g (inl h) (inr i) = absurd (live_or_other p s k f g h i)
unopened_case p s k f g (inr h) (inl i) = absurd (live_or_other p s k g f i h)
unopened_case p s k f g (inr h) (inr i) =
    one_of_two f g faults.GoalOpenSelf faults.GoalOpenObjective (IsUnopenedFault p s k faults.GoalOpenSelf) (IsUnopenedFault p s k faults.GoalOpenObjective)
    (λ own objective. own.2 (objective.1 own.1)) h i

one_unopened_fault : (p : Opb) (s : State) (k : Block) (f g : StepFault) → IsUnopenedFault p s k f → IsUnopenedFault p s k g → f ≡ g
one_unopened_fault p s k f g h i = unopened_case p s k f g (unopened_is p s k f h) (unopened_is p s k g i)

block_end_is : (p : Opb) (s : State) (k : Block) (f : StepFault) → IsBlockEndFault p s k f → Case f faults.TooManyIds (HasRoom s → ⊥) ⊎ (HasRoom s × IsUnopenedFault p s k f)
block_end_is p s k faults.TooManyIds h = inl (refl, h)
block_end_is p s k _ h = inr h

block_end_case : (p : Opb) (s : State) (k : Block) (f g : StepFault) → Case f faults.TooManyIds (HasRoom s → ⊥) ⊎ (HasRoom s × IsUnopenedFault p s k f)
    → Case g faults.TooManyIds (HasRoom s → ⊥) ⊎ (HasRoom s × IsUnopenedFault p s k g) → f ≡ g
block_end_case p s k f g (inl h) (inl i) = h.0 ∙ sym i.0
block_end_case p s k f g (inl h) (inr i) = absurd (h.1 i.0)
block_end_case p s k f g (inr h) (inl i) = absurd (i.1 h.0)
block_end_case p s k f g (inr h) (inr i) = one_unopened_fault p s k f g h.1 i.1

not_closed : (s : State) (f : StepFault) → IsGoalEndFault s f → f ≡ faults.GoalNotClosed
not_closed s faults.GoalNotClosed h = refl
not_closed s _ h = absurd h

one_end_fault : (p : Opb) (s : State) (k : Block) (o : Option ℕ) (f g : StepFault) → IsEndFault p s k o f → IsEndFault p s k o g → f ≡ g
one_end_fault p s k (Some goal) f g h i = not_closed s f h ∙ sym (not_closed s g i)
one_end_fault p s k None f g h i = block_end_case p s k f g (block_end_is p s k f h) (block_end_is p s k g i)

pub one_step_fault : (p : Opb) (s : State) (step : Step) (f g : StepFault) → IsStepFault p s step f → IsStepFault p s step g → f ≡ g
one_step_fault p s (steps.Pol written) f g h k = one_pol_fault s written f g h k
one_step_fault p s (steps.Rup c) f g h k = one_rup_fault s c f g h k
one_step_fault p s (steps.Red c images) f g h k = one_outside s (IsRedFault p s c images) f g (one_red_fault p s c images) h k
one_step_fault p s (steps.Sol assigned) f g h k = one_outside s (IsSolFault p s assigned) f g (one_sol_fault p s assigned) h k
one_step_fault p s (steps.Soli assigned) f g h k = one_outside s (IsSoliFault p s assigned) f g (one_soli_fault p s assigned) h k
one_step_fault p s (steps.Del ids) f g h k = one_outside s (IsDelFault s ids) f g (one_del_fault s ids) h k
one_step_fault p s (steps.RedBegin c images) f g h k = one_outside s (IsRedBeginFault s c) f g (one_begin_fault s c) h k
one_step_fault p s (steps.Goal name) f g h k = one_inside s (IsProofGoalFault p s name) f g (one_open_fault p s name) h k
one_step_fault p s steps.End f g h k = one_inside s (λ b. IsEndFault p s b b.goal) f g (λ b. one_end_fault p s b b.goal) h k

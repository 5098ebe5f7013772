-- The faults of steps and conclusions, in the order of judging: each one's condition says that none before it stands.
-- Running out of memory is no fault of a step. Whether the step may stand where it does, in a block or outside one, is judged first.
--
-- A fault is a condition on the state and the step, as legality is, and not what some judge happens to find first. So the
-- order of judging is part of each condition, and laws say that it works out: a step is legal or has one fault, never
-- both. What is cheap is judged before what is dear: limits and ids before a search for what shows a constraint.
use Rattle.std.specs.Prelude.{◌≡◌, ◌≢◌, ℕ, ◌<◌, ◌⊎◌, ℤ, pos, ◌<ℤ◌, ◌≤ℤ◌, Bool, false, List, [], ◌∷◌, ◌++◌, Option, None, Some, All, IfSome, length, unsigned_abs}
use Rattle.std.specs.FinMap as map
use Rattle.linear.specs.declared.constraint.Signed.{Signed}
use Rattle.linear.specs.declared.term.Lit.{Lit}
use Rattle.linear.specs.declared.term.Term.{Term}
use Rattle.linear.specs.Opb.{Opb, Satisfies}
use Rattle.linear.specs.Valuation.{valuation_of}
use Rattle.normal_form.specs.Normal.{NormalConstraint, Fits}
use Rattle.normal_form.specs.NormalOf.{IsNormalOf}
use Rattle.normal_form.specs.Negation.{IsNegation}
use Rattle.cut_rules.specs.Rules.{IsSum, IsMultiple, IsTooLarge}
use Rattle.propagate.specs.Literals.{IsConsistent}
use Rattle.propagate.specs.Chain.{LeadsToConflict, IsReached}
use Rattle.substitution.specs.Images.{Images}
use Rattle.proof_steps.specs.declared.conclusion.Conclusion.{Conclusion}
use Rattle.proof_steps.specs.declared.conclusion.Lower.{Lower}
use Rattle.proof_steps.specs.declared.conclusion.Upper.{Upper}
use Rattle.proof_steps.specs.declared.conclusion.Conclusion.TheVariants as conclusions
use Rattle.proof_steps.specs.declared.conclusion.Lower.TheVariants as lowers
use Rattle.proof_rules.specs.declared.fault.StepFault.{StepFault}
use Rattle.proof_rules.specs.declared.fault.StepFault.TheVariants as faults
use Rattle.proof_steps.specs.declared.step.Item.{Item}
use Rattle.proof_steps.specs.declared.step.Item.TheVariants as items
use Rattle.proof_steps.specs.declared.step.GoalName.{GoalName}
use Rattle.proof_steps.specs.declared.step.Step.{Step}
use Rattle.proof_steps.specs.declared.step.Step.TheVariants as steps
use Rattle.proof_rules.specs.Block.{Asks, IsUnopened, AreLiveShown, IsItselfShown}
use Rattle.proof_rules.specs.Expression.{Given, IsPostfixOf}
use Rattle.proof_rules.specs.Justified.{EntitlesLower, EntitlesUpper, TakesHint}
use Rattle.proof_rules.specs.Legal.{Logs, LegalDel, worth_of}
use Rattle.proof_rules.specs.Redundant.{IsShownUnder, IsShownNotRaised}
use Rattle.proof_rules.specs.Running.{Runs}
use Rattle.proof_rules.specs.Shown.{IsShown, IsAdmitted, absurdity}
use Rattle.proof_rules.specs.Solution.{literal_for, NamesAll, Completes, at_least}
use Rattle.proof_rules.specs.State.{State, Block, constraints, constraint_of, HasRoom, IsOutside}

-- out of memory, or this
abbrev pub OrMemory : StepFault → Type 0 → Type 0
OrMemory faults.OutOfMemory condition = Unit {0}
OrMemory _ condition = condition

-- the rules with a factor: nothing on the stack, then a factor below 1
abbrev pub IsFactorFault : ℤ → List NormalConstraint → StepFault → Type 0
IsFactorFault k stack faults.StackShape = stack ≡ []
IsFactorFault k stack faults.BadFactor = (stack ≢ []) × (k <ℤ pos 1)
IsFactorFault k stack _ = ⊥

-- nothing on the stack
abbrev pub IsShapeFault : List NormalConstraint → StepFault → Type 0
IsShapeFault stack faults.StackShape = stack ≡ []
IsShapeFault stack _ = ⊥

-- an id that names no constraint
abbrev pub IsIdFault : Given → ℤ → StepFault → Type 0
IsIdFault given id faults.DeadId = given id ≡ None
IsIdFault given id _ = ⊥

-- addition: fewer than two constraints, then a sum that is not within the limits
abbrev pub IsAddFault : List NormalConstraint → StepFault → Type 0
IsAddFault stack faults.StackShape = length stack < 2
IsAddFault stack faults.TooLarge =
    (d : NormalConstraint) × (g : NormalConstraint) × (rest : List NormalConstraint) × (r : NormalConstraint)
    × (stack ≡ g ∷ d ∷ rest) × IsTooLarge (IsSum d g) r
IsAddFault stack _ = ⊥

-- multiplication: as with every factor, then a multiple that is not within the limits
abbrev pub IsMultiplyFault : ℤ → List NormalConstraint → StepFault → Type 0
IsMultiplyFault k stack faults.TooLarge =
    (d : NormalConstraint) × (rest : List NormalConstraint) × (r : NormalConstraint)
    × (stack ≡ d ∷ rest) × (pos 0 <ℤ k) × IsTooLarge (IsMultiple (unsigned_abs k) d) r
IsMultiplyFault k stack f = IsFactorFault k stack f

-- why an item cannot be applied to the constraints on a stack, its top first
abbrev pub IsItemFault : Given → Item → List NormalConstraint → StepFault → Type 0
IsItemFault given (items.Id id) stack f = IsIdFault given id f
IsItemFault given (items.Axiom l) stack f = ⊥
IsItemFault given items.Add stack f = IsAddFault stack f
IsItemFault given (items.Multiply k) stack f = IsMultiplyFault k stack f
IsItemFault given (items.Divide k) stack f = IsFactorFault k stack f
IsItemFault given items.Saturate stack f = IsShapeFault stack f
IsItemFault given (items.Weaken x) stack f = IsShapeFault stack f

-- the items before one run, and that one cannot be applied
abbrev pub StopsAtItem : Given → List Item → StepFault → Type 0
StopsAtItem given written f =
    (before : List Item) × (i : Item) × (behind : List Item) × (stack : List NormalConstraint)
    × (written ≡ before ++ i ∷ behind) × Runs given before [] stack × IsItemFault given i stack f

-- all items run, and not exactly one constraint is left
abbrev pub LeavesOther : Given → List Item → Type 0
LeavesOther given written = (stack : List NormalConstraint) × Runs given written [] stack × (length stack ≢ 1)

-- items are judged from left to right, and at the end what is left
abbrev pub IsWritingFault : Given → List Item → StepFault → Type 0
IsWritingFault given written faults.StackShape = StopsAtItem given written faults.StackShape ⊎ LeavesOther given written
IsWritingFault given written f = StopsAtItem given written f

-- pol: the items, and then the ids
abbrev pub IsPolFault : State → List Item → StepFault → Type 0
IsPolFault s written faults.TooManyIds = (n : NormalConstraint) × IsPostfixOf (constraint_of s) written n × (HasRoom s → ⊥)
IsPolFault s written f = IsWritingFault (constraint_of s) written f

-- a written constraint: the limits, then the ids
abbrev pub IsAdmissionFault : State → Signed → StepFault → Type 0
IsAdmissionFault s c faults.TooLarge = (n : NormalConstraint) → IsAdmitted c n → ⊥
IsAdmissionFault s c faults.TooManyIds = ((n : NormalConstraint) × IsAdmitted c n) × (HasRoom s → ⊥)
IsAdmissionFault s c _ = ⊥

abbrev pub IsRupFault : State → Signed → StepFault → Type 0
IsRupFault s c faults.NotShown = (n : NormalConstraint) × IsAdmitted c n × HasRoom s × (IsShown (constraints s) n → ⊥)
IsRupFault s c f = IsAdmissionFault s c f

-- the goals of a `red` step: the live constraints by rising id, the new constraint, the objective
abbrev pub IsGoalFault : Opb → State → List NormalConstraint → Images → NormalConstraint → StepFault → Type 0
IsGoalFault p s from images n (faults.GoalOpen id) =
    (e : NormalConstraint) × (map.get s.live id ≡ Some e) × (IsShownUnder from images e → ⊥)
    × ((k : ℕ) (d : NormalConstraint) → k < id → map.get s.live k ≡ Some d → IsShownUnder from images d)
IsGoalFault p s from images n faults.GoalOpenSelf = All (IsShownUnder from images) (constraints s) × (IsShownUnder from images n → ⊥)
IsGoalFault p s from images n faults.GoalOpenObjective =
    All (IsShownUnder from images) (constraints s) × IsShownUnder from images n
    × ((objective : List Term) × (p.objective ≡ Some objective) × (IsShownNotRaised from images objective → ⊥))
IsGoalFault p s from images n _ = ⊥

abbrev pub IsOpenGoal : Opb → State → Signed → Images → StepFault → Type 0
IsOpenGoal p s c images f =
    (n : NormalConstraint) × (m : NormalConstraint) × IsAdmitted c n × HasRoom s × IsNegation n m × IsGoalFault p s (constraints s ++ m ∷ []) images n f

abbrev pub IsRedFault : Opb → State → Signed → Images → StepFault → Type 0
IsRedFault p s c images f = IsAdmissionFault s c f ⊎ IsOpenGoal p s c images f

-- sol: the assignment; then its completion, where some variable of the file may be reached with neither sign; then what
-- the completion satisfies
abbrev pub IsSolFault : Opb → State → List Lit → StepFault → Type 0
IsSolFault p s assigned faults.SolutionConflict =
    (IsConsistent assigned → ⊥) ⊎ (IsConsistent assigned × (NamesAll (length p.names) assigned → ⊥) × LeadsToConflict (constraints s) assigned)
IsSolFault p s assigned faults.SolutionPartial =
    IsConsistent assigned × (LeadsToConflict (constraints s) assigned → ⊥)
    × ((v : ℕ) × (v < length p.names) × ((value : Bool) → IsReached (constraints s) assigned (literal_for v value) → ⊥))
IsSolFault p s assigned faults.SolutionFalse =
    ((g : List Bool) × Completes (constraints s) (length p.names) assigned g)
    × ((g : List Bool) → Completes (constraints s) (length p.names) assigned g → Satisfies (valuation_of g) p → ⊥)
IsSolFault p s assigned _ = ⊥

-- what a logged solution is worth is not below the least so far
abbrev pub IsNotBetter : Opb → State → List Bool → Type 0
IsNotBetter p s g = (least : ℤ) × (s.least ≡ Some least) × (least ≤ℤ worth_of p g)

abbrev pub IsSoliFault : Opb → State → List Lit → StepFault → Type 0
IsSoliFault p s assigned faults.NoObjective = p.objective ≡ None
IsSoliFault p s assigned faults.NotImproving =
    (p.objective ≢ None) × ((g : List Bool) × Logs p s assigned g) × ((g : List Bool) → Logs p s assigned g → IsNotBetter p s g)
IsSoliFault p s assigned faults.TooManyIds =
    (p.objective ≢ None) × ((g : List Bool) × Logs p s assigned g × IfSome s.least (λ least. worth_of p g <ℤ least)) × (HasRoom s → ⊥)
IsSoliFault p s assigned f = (p.objective ≢ None) × IsSolFault p s assigned f

-- del id: one of the ids is not live, those before it gone
abbrev pub IsDelFault : State → List ℤ → StepFault → Type 0
IsDelFault s ids faults.DeadId =
    (before : List ℤ) × (id : ℤ) × (behind : List ℤ) × (between : State)
    × (ids ≡ before ++ id ∷ behind) × LegalDel s before between × (constraint_of between id ≡ None)
IsDelFault s ids _ = ⊥

-- red .. ; begin: the constraint and its negation, then the ids
abbrev pub IsRedBeginFault : State → Signed → StepFault → Type 0
IsRedBeginFault s c faults.TooLarge = (n m : NormalConstraint) → IsAdmitted c n → IsNegation n m → Fits m → ⊥
IsRedBeginFault s c faults.TooManyIds =
    ((n : NormalConstraint) × (m : NormalConstraint) × IsAdmitted c n × IsNegation n m × Fits m) × (HasRoom s → ⊥)
IsRedBeginFault s c _ = ⊥

-- proofgoal: another goal is open, then no goal of the name may be opened, then its negation, then the ids
abbrev pub IsProofGoalFault : Opb → State → GoalName → Block → StepFault → Type 0
IsProofGoalFault p s name k faults.BlockOpen = k.goal ≢ None
IsProofGoalFault p s name k faults.GoalUnknown = (k.goal ≡ None) × ((r : NormalConstraint) → Asks p s k name r → ⊥)
IsProofGoalFault p s name k faults.TooLarge =
    (k.goal ≡ None) × ((r : NormalConstraint) × Asks p s k name r × ((m : NormalConstraint) → IsNegation r m → Fits m → ⊥))
IsProofGoalFault p s name k faults.TooManyIds =
    (k.goal ≡ None) × ((r : NormalConstraint) × (m : NormalConstraint) × Asks p s k name r × IsNegation r m × Fits m) × (HasRoom s → ⊥)
IsProofGoalFault p s name k _ = ⊥

-- the goals of a block that were not opened: live constraints by rising id, the new constraint, the objective
abbrev pub IsUnopenedFault : Opb → State → Block → StepFault → Type 0
IsUnopenedFault p s k (faults.GoalOpen id) =
    (e : NormalConstraint) × IsUnopened k id × (map.get s.live id ≡ Some e) × (IsShownUnder (constraints s) k.images e → ⊥)
    × ((j : ℕ) (d : NormalConstraint) → j < id → IsUnopened k j → map.get s.live j ≡ Some d → IsShownUnder (constraints s) k.images d)
IsUnopenedFault p s k faults.GoalOpenSelf = AreLiveShown s k × (k.itself ≡ false) × (IsShownUnder (constraints s) k.images k.constraint → ⊥)
IsUnopenedFault p s k faults.GoalOpenObjective =
    AreLiveShown s k × IsItselfShown s k × (k.objective ≡ false)
    × ((objective : List Term) × (p.objective ≡ Some objective) × (IsShownNotRaised (constraints s) k.images objective → ⊥))
IsUnopenedFault p s k _ = ⊥

-- the end of a block: the ids, then its goals
abbrev pub IsBlockEndFault : Opb → State → Block → StepFault → Type 0
IsBlockEndFault p s k faults.TooManyIds = HasRoom s → ⊥
IsBlockEndFault p s k f = HasRoom s × IsUnopenedFault p s k f

-- the end of a goal: `0 >= 1` is not shown
abbrev pub IsGoalEndFault : State → StepFault → Type 0
IsGoalEndFault s faults.GoalNotClosed = IsShown (constraints s) absurdity → ⊥
IsGoalEndFault s _ = ⊥

abbrev pub IsEndFault : Opb → State → Block → Option ℕ → StepFault → Type 0
IsEndFault p s k (Some goal) f = IsGoalEndFault s f
IsEndFault p s k None f = IsBlockEndFault p s k f

-- what may stand outside blocks alone: a block is open, then its own faults
abbrev pub IsOutsideFault : State → (StepFault → Type 0) → StepFault → Type 0
IsOutsideFault s IsFault faults.BlockOpen = s.block ≢ None
IsOutsideFault s IsFault f = IsOutside s × IsFault f

-- what may stand in a block alone: none is open, then its own faults
abbrev pub IsInsideFault : State → (Block → StepFault → Type 0) → StepFault → Type 0
IsInsideFault s IsFault faults.NoBlock = s.block ≡ None
IsInsideFault s IsFault f = (k : Block) × (s.block ≡ Some k) × IsFault k f

abbrev pub IsStepFault : Opb → State → Step → StepFault → Type 0
IsStepFault p s (steps.Pol written) f = IsPolFault s written f
IsStepFault p s (steps.Rup c) f = IsRupFault s c f
IsStepFault p s (steps.Red c images) f = IsOutsideFault s (IsRedFault p s c images) f
IsStepFault p s (steps.Sol assigned) f = IsOutsideFault s (IsSolFault p s assigned) f
IsStepFault p s (steps.Soli assigned) f = IsOutsideFault s (IsSoliFault p s assigned) f
IsStepFault p s (steps.Del ids) f = IsOutsideFault s (IsDelFault s ids) f
IsStepFault p s (steps.RedBegin c images) f = IsOutsideFault s (IsRedBeginFault s c) f
IsStepFault p s (steps.Goal name) f = IsInsideFault s (IsProofGoalFault p s name) f
IsStepFault p s steps.End f = IsInsideFault s (λ k. IsEndFault p s k k.goal) f

-- UNSAT: something is logged, then `0 >= 1` is not shown
abbrev pub IsUnsatFault : State → StepFault → Type 0
IsUnsatFault s faults.SolutionLogged = s.logged ≢ []
IsUnsatFault s faults.LowerNotShown = (s.logged ≡ []) × (IsShown (constraints s) absurdity → ⊥)
IsUnsatFault s _ = ⊥

-- a lower bound: above the least value, then not within the limits, then not shown
abbrev pub IsBoundFault : State → List Term → ℤ → StepFault → Type 0
IsBoundFault s objective bound faults.LowerAboveBest = (least : ℤ) × (s.least ≡ Some least) × (least <ℤ bound)
IsBoundFault s objective bound faults.TooLarge =
    IfSome s.least (λ least. bound ≤ℤ least) × ((n : NormalConstraint) → IsNormalOf (at_least objective bound) n → Fits n → ⊥)
IsBoundFault s objective bound faults.LowerNotShown =
    IfSome s.least (λ least. bound ≤ℤ least)
    × ((n : NormalConstraint) × IsNormalOf (at_least objective bound) n × Fits n × (IsShown (constraints s) n → ⊥))
IsBoundFault s objective bound _ = ⊥

abbrev pub IsLowerFault : State → List Term → Lower → StepFault → Type 0
IsLowerFault s objective lowers.MinusInf f = ⊥
IsLowerFault s objective (lowers.At bound) f = IsBoundFault s objective bound f
IsLowerFault s objective lowers.Inf f = IsUnsatFault s f

abbrev pub IsUpperFault : Opb → State → Upper → StepFault → Type 0
IsUpperFault p s upper faults.UpperNotLogged = EntitlesUpper p s upper → ⊥
IsUpperFault p s upper _ = ⊥

-- BOUNDS behind its hint: the lower bound, then the upper one
abbrev pub IsBoundsFault : Opb → State → List Term → Lower → Upper → StepFault → Type 0
IsBoundsFault p s objective lower upper f = IsLowerFault s objective lower f ⊎ (EntitlesLower s objective lower × IsUpperFault p s upper f)

-- SAT behind its hint: nothing is logged
abbrev pub IsSatFault : State → StepFault → Type 0
IsSatFault s faults.UpperNotLogged = s.logged ≡ []
IsSatFault s _ = ⊥

-- a hint is judged as one more solution
abbrev pub IsHintFault : Opb → State → Option (List Lit) → StepFault → Type 0
IsHintFault p s None f = ⊥
IsHintFault p s (Some assigned) f = IsSolFault p s assigned f

-- the hint, then what is judged behind it
abbrev pub IsBehindHint : Opb → State → Option (List Lit) → (State → Type 0) → Type 0
IsBehindHint p s hint condition = ((t : State) × TakesHint p s hint t) × ((t : State) → TakesHint p s hint t → condition t)

-- outside blocks, a conclusion that is not earned
abbrev pub IsUnjustified : Opb → State → Conclusion → StepFault → Type 0
IsUnjustified p s conclusions.Nothing f = ⊥
IsUnjustified p s (conclusions.Sat hint) f = IsHintFault p s hint f ⊎ IsBehindHint p s hint (λ t. IsSatFault t f)
IsUnjustified p s conclusions.Unsat f = IsUnsatFault s f
IsUnjustified p s (conclusions.Bounds lower upper hint) faults.NoObjective = p.objective ≡ None
IsUnjustified p s (conclusions.Bounds lower upper hint) f =
    (objective : List Term) × (p.objective ≡ Some objective)
    × (IsHintFault p s hint f ⊎ IsBehindHint p s hint (λ t. IsBoundsFault p t objective lower upper f))

-- a block is open, then the faults of the conclusion
abbrev pub IsConclusionFault : Opb → State → Conclusion → StepFault → Type 0
IsConclusionFault p s c f = IsOutsideFault s (IsUnjustified p s c) f

-- A `red` step with subproofs: a block of steps.
--
-- The step that opens it puts the negation of the new constraint beside the live ones, since each goal is asked for only where the new
-- constraint fails. A goal that propagation does not show is opened by its name: its negation comes beside the others too, and the goal
-- is closed where `0 >= 1` is shown then. What came for the goal goes with its end, and what came for the block with the block's. That
-- shows every goal which was not opened, as a `red` step without a block does, and adds the new constraint.
use Rattle.std.specs.Prelude.{◌≡◌, ℕ, ◌+◌, ◌<◌, true, false, List, Option, Some, None, IfSome}
use Rattle.std.specs.FinMap as map
use Rattle.std.specs.FinSet as set
use Rattle.linear.specs.declared.constraint.Signed.{Signed}
use Rattle.linear.specs.declared.term.Term.{Term}
use Rattle.linear.specs.Opb.{Opb}
use Rattle.normal_form.specs.Normal.{NormalConstraint, Fits}
use Rattle.normal_form.specs.Negation.{IsNegation}
use Rattle.substitution.specs.Images.{Images}
use Rattle.substitution.specs.Under.{IsUnder}
use Rattle.substitution.specs.Objective.{IsObjectiveGoal}
use Rattle.proof_steps.specs.declared.step.GoalName.{GoalName}
use Rattle.proof_steps.specs.declared.step.GoalName.TheVariants as names
use Rattle.proof_rules.specs.Redundant.{IsShownUnder, IsShownNotRaised}
use Rattle.proof_rules.specs.Shown.{IsShown, IsAdmitted, absurdity}
use Rattle.proof_rules.specs.State.{State, Block, constraints, id_of, HasRoom, up_to, with_constraint}

-- a block whose negation takes an id, and in which no goal was opened yet
abbrev pub new_block : NormalConstraint → Images → ℕ → Block
new_block n images first = record {
  constraint = n;
  images = images;
  first = first;
  opened = set.empty;
  itself = false;
  objective = false;
  goal = None;
}

-- a constraint is added, and the block becomes another one
abbrev pub with_block : Block → NormalConstraint → State → State
with_block k n s = record (with_constraint n s) { block = Some k }

-- red .. ; begin: the negation of a constraint is added, and a block opened for it
abbrev pub LegalRedBegin : State → Signed → Images → State → Type 0
LegalRedBegin old c images new =
    (n : NormalConstraint) × (m : NormalConstraint) × IsAdmitted c n × IsNegation n m × Fits m × HasRoom old
    × (new ≡ with_block (new_block n images old.next) m old)

-- a live constraint from before the block whose goal was not opened
abbrev pub IsUnopened : Block → ℕ → Type 0
IsUnopened k id = (id < k.first) × (set.contains k.opened id ≡ false)

-- what a goal that may be opened asks for: what a live constraint from before the block becomes under the substitution, or what the
-- new one becomes, or that the objective does not rise
abbrev pub Asks : Opb → State → Block → GoalName → NormalConstraint → Type 0
Asks p s k (names.Live number) r =
    IsUnopened k (id_of s.next number) × ((e : NormalConstraint) × (map.get s.live (id_of s.next number) ≡ Some e) × IsUnder e k.images r)
Asks p s k names.Itself r = (k.itself ≡ false) × IsUnder k.constraint k.images r
Asks p s k names.Objective r =
    (k.objective ≡ false) × ((objective : List Term) × (p.objective ≡ Some objective) × IsObjectiveGoal objective k.images r)

-- the block with a goal opened, whose negation takes the next id
abbrev pub with_goal : ℕ → GoalName → Block → Block
with_goal next (names.Live number) k = record k { opened = set.insert k.opened (id_of next number); goal = Some next }
with_goal next names.Itself k = record k { itself = true; goal = Some next }
with_goal next names.Objective k = record k { objective = true; goal = Some next }

-- proofgoal: where no goal is open, one is opened, and its negation added
abbrev pub LegalGoal : Opb → State → GoalName → State → Type 0
LegalGoal p old name new =
    (k : Block) × (r : NormalConstraint) × (m : NormalConstraint)
    × (old.block ≡ Some k) × (k.goal ≡ None) × Asks p old k name r × IsNegation r m × Fits m × HasRoom old
    × (new ≡ with_block (with_goal old.next name k) m old)

-- the goals that were not opened are shown: live constraints from before the block, the new one, the objective
abbrev pub AreLiveShown : State → Block → Type 0
AreLiveShown s k = (id : ℕ) (e : NormalConstraint) → IsUnopened k id → map.get s.live id ≡ Some e → IsShownUnder (constraints s) k.images e

abbrev pub IsItselfShown : State → Block → Type 0
IsItselfShown s k = k.itself ≡ false → IsShownUnder (constraints s) k.images k.constraint

abbrev pub IsObjectiveShown : Opb → State → Block → Type 0
IsObjectiveShown p s k = k.objective ≡ false → IfSome p.objective (IsShownNotRaised (constraints s) k.images)

-- the goal's constraints go
abbrev pub closed : ℕ → Block → State → State
closed goal k s = record s { live = up_to goal s.live; block = Some (record k { goal = None }) }

-- the block's constraints go, and the new one is added
abbrev pub finished : Block → State → State
finished k s = record s { live = map.insert (up_to k.first s.live) s.next k.constraint; next = s.next + 1; block = None }

-- the end of a goal, in which `0 >= 1` is shown
abbrev pub EndsGoal : State → Block → ℕ → State → Type 0
EndsGoal old k goal new = IsShown (constraints old) absurdity × (new ≡ closed goal k old)

-- the end of a block, whose other goals are shown from what is live in it
pub record EndsBlock (p : Opb) (old : State) (k : Block) (new : State) : Type 0 where
  pub room : HasRoom old
  pub each_live : AreLiveShown old k
  pub itself : IsItselfShown old k
  pub objective : IsObjectiveShown p old k
  pub becomes : new ≡ finished k old

abbrev pub EndsOpen : Opb → State → Block → Option ℕ → State → Type 0
EndsOpen p old k (Some goal) new = EndsGoal old k goal new
EndsOpen p old k None new = EndsBlock p old k new

-- end: the open goal is closed, or the block where none is open
abbrev pub LegalEnd : Opb → State → State → Type 0
LegalEnd p old new = (k : Block) × (old.block ≡ Some k) × EndsOpen p old k k.goal new

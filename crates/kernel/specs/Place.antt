-- Where a step stands: outside blocks, in one where no goal is open, or in an open goal.
use Rattle.std.specs.Prelude.{◌≡◌, ℕ, ◌<◌, Option, Some, None, MatchOption, ⊤}
use Rattle.linear.specs.Opb.{Opb}
use Rattle.normal_form.specs.Normal.{NormalConstraint}
use Rattle.proof_steps.specs.declared.step.GoalName.{GoalName}
use Rattle.proof_steps.specs.declared.step.GoalName.TheVariants as names
use Rattle.proof_rules.specs.Block.{Asks, AreLiveShown, IsItselfShown, IsObjectiveShown}
use Rattle.proof_rules.specs.State.{State, Block, id_of, id_limit}
use Rattle.kernel.specs.declared.open_block.Place.{Place}
use Rattle.kernel.specs.declared.open_block.Place.TheVariants as places

-- the block is open, and no goal in it
abbrev pub IsInBlock : State → Block → Type 0
IsInBlock s k = (s.block ≡ Some k) × (k.goal ≡ None)

abbrev pub IsPlace : State → Place → Type 0
IsPlace s places.Outside = s.block ≡ None
IsPlace s places.Block = (k : Block) × IsInBlock s k
IsPlace s (places.Goal first) = (k : Block) × (s.block ≡ Some k) × (k.goal ≡ Some first)

-- the id that a goal's name means is an id at all
abbrev pub IsNameWithin : ℕ → GoalName → Type 0
IsNameWithin next (names.Live number) = id_of next number < id_limit
IsNameWithin next names.Itself = ⊤
IsNameWithin next names.Objective = ⊤

-- a goal that may be opened by a name: the block is open, and no goal in it
abbrev pub IsAskedFor : Opb → State → GoalName → NormalConstraint → Type 0
IsAskedFor p s name r = (k : Block) × IsInBlock s k × Asks p s k name r

-- what a name asks for in a block, if it asks for something
abbrev pub IsAskedIn : Opb → State → Block → GoalName → Option NormalConstraint → Type 0
IsAskedIn p s k name goal = MatchOption goal ((r : NormalConstraint) → Asks p s k name r → ⊥) (Asks p s k name)

-- the goals of a block that were not opened are shown
pub record AreUnopenedShown (p : Opb) (s : State) (k : Block) : Type 0 where
  pub each_live : AreLiveShown s k
  pub itself : IsItselfShown s k
  pub objective : IsObjectiveShown p s k

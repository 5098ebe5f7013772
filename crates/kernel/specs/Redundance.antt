-- The goals of a `red` step that are open.
use Rattle.std.specs.Prelude.{◌≡◌, false, ℕ, ◌<◌, List, [], ◌∷◌, ◌++◌, Some}
use Rattle.std.specs.FinMap as map
use Rattle.std.specs.FinSet as set
use Rattle.normal_form.specs.Negation.{IsNegation}
use Rattle.normal_form.specs.Normal.{NormalConstraint}
use Rattle.propagate.specs.Ids.{IdSet}
use Rattle.substitution.specs.Images.{Images}
use Rattle.proof_rules.specs.Fault.{IsGoalFault}
use Rattle.proof_rules.specs.Redundant.{IsShownUnder, Redundant}
use Rattle.proof_rules.specs.State.{Live, constraints}
use Rattle.proof_rules.specs.declared.fault.StepFault.{StepFault}
use Rattle.proof_rules.specs.declared.fault.StepFault.TheVariants as faults
use Rattle.kernel.specs.Held.{Held}

-- a goal is asked of the live constraint of an id: it is below an end, and its goal was not opened
abbrev pub IsAsked : ℕ → IdSet → ℕ → Type 0
IsAsked end opened id = (id < end) × (set.contains opened id ≡ false)

-- what is asked of live constraints is shown
abbrev pub AreAskedShown : Live → ℕ → IdSet → List NormalConstraint → Images → Type 0
AreAskedShown live end opened from images = (id : ℕ) (e : NormalConstraint) → IsAsked end opened id → map.get live id ≡ Some e → IsShownUnder from images e

-- it is open of one, the first one by rising id
abbrev pub IsOpenLive : Live → ℕ → IdSet → List NormalConstraint → Images → StepFault → Type 0
IsOpenLive live end opened from images (faults.GoalOpen id) =
    (e : NormalConstraint) × IsAsked end opened id × (map.get live id ≡ Some e) × (IsShownUnder from images e → ⊥)
    × ((k : ℕ) (d : NormalConstraint) → k < id → IsAsked end opened k → map.get live k ≡ Some d → IsShownUnder from images d)
IsOpenLive live end opened from images _ = ⊥

-- all goals of a new constraint are shown, beside its negation
abbrev pub AreGoalsShown : Held → Images → NormalConstraint → Type 0
AreGoalsShown k images n = (m : NormalConstraint) × Redundant k.problem (constraints k.state) images n m

-- one of them is open
abbrev pub IsGoalOpen : Held → Images → NormalConstraint → StepFault → Type 0
IsGoalOpen k images n f =
    (m : NormalConstraint) × IsNegation n m × IsGoalFault k.problem k.state (constraints k.state ++ m ∷ []) images n f

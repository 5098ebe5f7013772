-- The stack of a `pol` step, its top first.
use Rattle.std.specs.Prelude.{◌≡◌, ℕ, List, [], ◌∷◌, ◌++◌, map, reverse, Option, None, Some}
use Rattle.normal_form.specs.Normal.{NormalConstraint, Fits}
use Rattle.cut_rules.specs.Rules.{IsSaturation, IsSum, IsTooLarge, IsWeakening}
use Rattle.proof_rules.specs.declared.fault.StepFault.{StepFault}
use Rattle.proof_rules.specs.declared.fault.StepFault.TheVariants as faults
use Rattle.pol_stack.specs.declared.pile.Held.{Held}
use Rattle.pol_stack.specs.declared.pile.Held.TheVariants as held
use Rattle.pol_stack.specs.declared.operand.Operand.{Operand}
use Rattle.pol_stack.specs.declared.operand.Operand.TheVariants as operands

-- the constraint that an operand stands for
abbrev pub operand_value : Operand → NormalConstraint
operand_value (operands.Live n) = n.now
operand_value (operands.Made n) = n
operand_value (operands.Sum n) = n

-- the constraints of the operands, the last one first
abbrev pub stack_of : List Operand → List NormalConstraint
stack_of ops = reverse (map operand_value ops)

-- with a running sum on top, if there is one
abbrev pub with_sum : Held → NormalConstraint → List NormalConstraint → List NormalConstraint
with_sum held.Nothing sum below = below
with_sum held.RunningSum sum below = sum ∷ below

-- the constraints of a pile: those above the running sum, the sum, and those below
abbrev pub stacked : List Operand → Held → NormalConstraint → List Operand → List NormalConstraint
stacked above held sum below = stack_of above ++ with_sum held sum (stack_of below)

-- what a hand holds
abbrev pub in_hand : Option Operand → List NormalConstraint
in_hand None = []
in_hand (Some o) = operand_value o ∷ []

-- what two hands hold, above a pile
abbrev pub with_hands : Option Operand → Option Operand → List NormalConstraint → List NormalConstraint
with_hands top under pile = in_hand top ++ (in_hand under ++ pile)

-- the sum of two constraints, within the limits, on top of the others
abbrev pub IsSumOnTop : NormalConstraint → NormalConstraint → List NormalConstraint → List NormalConstraint → Type 0
IsSumOnTop d g old new = (n : NormalConstraint) × IsSum d g n × Fits n × (new ≡ n ∷ old)

-- a constraint, weakened by a variable, on top of the others
abbrev pub IsWeakeningOnTop : ℕ → NormalConstraint → List NormalConstraint → List NormalConstraint → Type 0
IsWeakeningOnTop v d old new = (n : NormalConstraint) × IsWeakening v d n × (new ≡ n ∷ old)

-- the sum of two constraints is not within the limits
abbrev pub IsSumFault : NormalConstraint → NormalConstraint → StepFault → Type 0
IsSumFault d g faults.TooLarge = (r : NormalConstraint) × IsTooLarge (IsSum d g) r
IsSumFault d g _ = ⊥

-- a constraint is added to the one on top
abbrev pub IsAddedOnTop : NormalConstraint → List NormalConstraint → List NormalConstraint → Type 0
IsAddedOnTop g old new =
    (d : NormalConstraint) × (n : NormalConstraint) × (rest : List NormalConstraint)
    × (old ≡ d ∷ rest) × IsSum d g n × Fits n × (new ≡ n ∷ rest)

-- its sum with the one on top is not within the limits
abbrev pub IsTopSumFault : NormalConstraint → List NormalConstraint → StepFault → Type 0
IsTopSumFault g old f = (d : NormalConstraint) × (rest : List NormalConstraint) × (old ≡ d ∷ rest) × IsSumFault d g f

-- the one on top is weakened by a variable
abbrev pub IsTopWeakened : ℕ → List NormalConstraint → List NormalConstraint → Type 0
IsTopWeakened v old new =
    (d : NormalConstraint) × (n : NormalConstraint) × (rest : List NormalConstraint)
    × (old ≡ d ∷ rest) × IsWeakening v d n × (new ≡ n ∷ rest)

-- the one on top is saturated
abbrev pub IsTopSaturated : List NormalConstraint → List NormalConstraint → Type 0
IsTopSaturated old new =
    (d : NormalConstraint) × (n : NormalConstraint) × (rest : List NormalConstraint)
    × (old ≡ d ∷ rest) × IsSaturation d n × (new ≡ n ∷ rest)

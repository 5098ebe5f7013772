-- How a step's fault is printed: a number and a name.
use Rattle.std.specs.Prelude.{ℕ, List, codes}
use Rattle.proof_rules.specs.declared.fault.StepFault.{StepFault}
use Rattle.proof_rules.specs.declared.fault.StepFault.TheVariants as faults

abbrev pub number_of : StepFault → ℕ
number_of faults.DeadId = 10
number_of faults.StackShape = 11
number_of faults.BadFactor = 12
number_of faults.TooLarge = 13
number_of faults.NotShown = 14
number_of (faults.GoalOpen id) = 15
number_of faults.GoalOpenSelf = 16
number_of faults.GoalOpenObjective = 17
number_of faults.SolutionFalse = 18
number_of faults.SolutionPartial = 19
number_of faults.SolutionConflict = 20
number_of faults.NotImproving = 21
number_of faults.NoObjective = 22
number_of faults.FileConstraint = 23
number_of faults.LowerNotShown = 24
number_of faults.LowerAboveBest = 25
number_of faults.UpperNotLogged = 26
number_of faults.SolutionLogged = 27
number_of faults.OutOfMemory = 28
number_of faults.TooManyIds = 29
number_of faults.BlockOpen = 30
number_of faults.NoBlock = 31
number_of faults.GoalUnknown = 32
number_of faults.GoalNotClosed = 33

abbrev pub name_of : StepFault → List ℕ
name_of faults.DeadId = codes "DeadId"
name_of faults.StackShape = codes "StackShape"
name_of faults.BadFactor = codes "BadFactor"
name_of faults.TooLarge = codes "TooLarge"
name_of faults.NotShown = codes "NotShown"
name_of (faults.GoalOpen id) = codes "GoalOpen"
name_of faults.GoalOpenSelf = codes "GoalOpenSelf"
name_of faults.GoalOpenObjective = codes "GoalOpenObjective"
name_of faults.SolutionFalse = codes "SolutionFalse"
name_of faults.SolutionPartial = codes "SolutionPartial"
name_of faults.SolutionConflict = codes "SolutionConflict"
name_of faults.NotImproving = codes "NotImproving"
name_of faults.NoObjective = codes "NoObjective"
name_of faults.FileConstraint = codes "FileConstraint"
name_of faults.LowerNotShown = codes "LowerNotShown"
name_of faults.LowerAboveBest = codes "LowerAboveBest"
name_of faults.UpperNotLogged = codes "UpperNotLogged"
name_of faults.SolutionLogged = codes "SolutionLogged"
name_of faults.OutOfMemory = codes "OutOfMemory"
name_of faults.TooManyIds = codes "TooManyIds"
name_of faults.BlockOpen = codes "BlockOpen"
name_of faults.NoBlock = codes "NoBlock"
name_of faults.GoalUnknown = codes "GoalUnknown"
name_of faults.GoalNotClosed = codes "GoalNotClosed"

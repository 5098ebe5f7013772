-- The faults of steps that the faults of rules become.
use Rattle.normal_form.specs.declared.fault.CutFault.{CutFault}
use Rattle.normal_form.specs.declared.fault.CutFault.TheVariants as cuts
use Rattle.proof_rules.specs.declared.fault.StepFault.{StepFault}
use Rattle.proof_rules.specs.declared.fault.StepFault.TheVariants as steps

abbrev pub of_rule : CutFault → StepFault
of_rule cuts.TooLarge = steps.TooLarge
of_rule cuts.BadFactor = steps.BadFactor
of_rule cuts.OutOfMemory = steps.OutOfMemory

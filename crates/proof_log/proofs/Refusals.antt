-- What is refused for want of memory alone.
use Rattle.std.proofs.Common.{◌≡◌, refl}
use Rattle.linear.specs.Opb.{Opb}
use Rattle.proof_rules.specs.Fault.{IsStepFault, OrMemory}
use Rattle.proof_rules.specs.Legal.{Legal}
use Rattle.proof_rules.specs.State.{State}
use Rattle.proof_rules.proofs.NotLegal.{step_never}
use Rattle.proof_rules.specs.declared.fault.StepFault.{StepFault}
use Rattle.proof_rules.specs.declared.fault.StepFault.TheVariants as faults
use Rattle.proof_steps.specs.declared.step.Step.{Step}

pub only_memory : (f : StepFault) (P : Type 0) → OrMemory f P → (P → ⊥) → f ≡ faults.OutOfMemory
only_memory faults.OutOfMemory P h none = refl
only_memory f P h none = absurd (none h)

-- a legal step has no fault
pub legal_by_memory : (p : Opb) (s t : State) (step : Step) (f : StepFault) → Legal p s step t → OrMemory f (IsStepFault p s step f) → f ≡ faults.OutOfMemory
legal_by_memory p s t step f legal h = only_memory f (IsStepFault p s step f) h (λ i. step_never p s step f t i legal)

-- What is refused outside blocks, in the words of a step that may stand nowhere else.
use Rattle.std.proofs.Common.{Result, IfErr}
use Rattle.std.proofs.lemmas.Result.{IfErr-weaker}
use Rattle.proof_rules.specs.declared.fault.StepFault.{StepFault}
use Rattle.proof_rules.specs.declared.fault.StepFault.TheVariants as faults
use Rattle.proof_rules.specs.Fault.{OrMemory, IsOutsideFault}
use Rattle.proof_rules.specs.State.{State, IsOutside}
use Rattle.proof_rules.proofs.BlocksJudged.{outside_fault}
use Rattle.proof_rules.proofs.PolFaults.{or_memory}

pub refused_outside : {T : Type 0} (s : State) (IsFault : StepFault → Type 0) (r : Result T StepFault) → IsOutside s → (IsFault faults.BlockOpen → ⊥)
    → IfErr r (λ f. OrMemory f (IsFault f)) → IfErr r (λ f. OrMemory f (IsOutsideFault s IsFault f))
refused_outside s IsFault r outside never h =
    IfErr-weaker r (λ f. OrMemory f (IsFault f)) (λ f. OrMemory f (IsOutsideFault s IsFault f))
    (λ f. or_memory f (IsFault f) (IsOutsideFault s IsFault f) (outside_fault s IsFault f outside never)) h

-- What a run has written, from what each of its two pushes has.
use Rattle.std.proofs.Common.{ℕ, List, Option, Result, Ok, Err}
use Rattle.pb_text.specs.Devices.{SinkState}
use Rattle.pb_main.specs.Pushed.{HaveGoneToAny}
use Rattle.pb_main.specs.Running.{HasAnswered, HasRun}
use Rattle.pb_main.specs.declared.outcome.Outcome.{Outcome}
use Rattle.pb_main.specs.declared.run_fault.RunFault.{RunFault}
use Rattle.pb_main.specs.declared.run_fault.RunFault.TheVariants.{ProofWrite, AnswerWrite}

-- the proof has gone where it should, and then the answer, or a beginning of it
pub ran :
    (opb proof : List ℕ) (limit : ℕ) (old new : SinkState) (proof_old proof_new : Option SinkState)
    (result : Result Outcome RunFault) → HaveGoneToAny proof proof_old proof_new
    → HasAnswered opb proof limit old new result → HasRun opb limit old new proof_old proof_new result
ran opb proof limit old new proof_old proof_new (Ok outcome) gone answered = (proof, gone, answered)
ran opb proof limit old new proof_old proof_new (Err (AnswerWrite outcome)) gone answered = (proof, gone, answered)
ran opb proof limit old new proof_old proof_new (Err ProofWrite) gone answered = absurd answered

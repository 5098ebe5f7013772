-- What a whole run has written: its proof first, then its answer.
use Rattle.std.specs.Prelude.{◌≡◌, ℕ, List, Option, Result, Ok, Err}
use Rattle.pb_text.specs.Devices.{SinkState}
use Rattle.pb_main.specs.Answer.{answer}
use Rattle.pb_main.specs.Checked.{IsProofOrNone}
use Rattle.pb_main.specs.Outcome.{IsOutcomeOf}
use Rattle.pb_main.specs.Pushed.{HasTaken, HasTakenPart, HaveGoneToAny, HavePartlyGone}
use Rattle.pb_main.specs.declared.outcome.Outcome.{Outcome}
use Rattle.pb_main.specs.declared.run_fault.RunFault.{RunFault}
use Rattle.pb_main.specs.declared.run_fault.RunFault.TheVariants.{ProofWrite, AnswerWrite}

-- what a run has decided: an outcome, and bytes that are a legal proof of the file, or none
pub record IsDecided (opb proof : List ℕ) (limit : ℕ) (outcome : Outcome) : Type 0 where
  pub outcome_is : IsOutcomeOf opb proof limit outcome
  pub proof_is : IsProofOrNone opb proof

-- the answer that was decided was taken whole, or a push of it failed and a beginning of it was taken
abbrev pub HasAnswered : List ℕ → List ℕ → ℕ → SinkState → SinkState → Result Outcome RunFault → Type 0
HasAnswered opb proof limit old new (Ok outcome) = IsDecided opb proof limit outcome × HasTaken (answer outcome) old new
HasAnswered opb proof limit old new (Err (AnswerWrite outcome)) =
    IsDecided opb proof limit outcome × HasTakenPart (answer outcome) old new
HasAnswered opb proof limit old new (Err ProofWrite) = ⊥

-- What the sinks have taken where a run ends. A push of the proof failed: a beginning of a proof that was decided on, and nothing of any
-- answer. Else all of the proof, where there is a sink for it, and then the answer.
abbrev pub HasRun :
    List ℕ → ℕ → SinkState → SinkState → Option SinkState → Option SinkState → Result Outcome RunFault → Type 0
HasRun opb limit old new proof_old proof_new (Err ProofWrite) =
    (proof : List ℕ) × (outcome : Outcome) × IsDecided opb proof limit outcome × HavePartlyGone proof proof_old proof_new
    × (new ≡ old)
HasRun opb limit old new proof_old proof_new result =
    (proof : List ℕ) × HaveGoneToAny proof proof_old proof_new × HasAnswered opb proof limit old new result

-- Why the code stops: at a line, or since memory ran out, which is no refusal and has a way of its own.
use Rattle.std.specs.Prelude.{ℕ, ⊤}
use Rattle.proof_rules.specs.declared.fault.StepFault.{StepFault}
use Rattle.proof_rules.specs.declared.fault.StepFault.TheVariants as judgings
use Rattle.proof_text.specs.declared.fault.ProofFault.{ProofFault}
use Rattle.proof_text.specs.declared.fault.ProofFault.TheVariants as readings
use Rattle.checker.specs.declared.stop.Stop.{Stop}
use Rattle.checker.specs.declared.stop.Stop.TheVariants as stops
use Rattle.checker.specs.declared.verdict.Code.{Code}
use Rattle.checker.specs.declared.verdict.Code.TheVariants.{Reading, Judging}

-- judging stops for this reason, or out of memory, apart from any line
abbrev pub StopsBy : (ℕ → Code → Type 0) → Stop → Type 0
StopsBy why (stops.At line code) = why line code
StopsBy why stops.NoMemory = ⊤

-- the stop at a line that is not read
abbrev pub reading_stop : ℕ → ProofFault → Stop
reading_stop line readings.OutOfMemory = stops.NoMemory
reading_stop line fault = stops.At line (Reading fault)

-- the stop at a line whose step or conclusion has a fault
abbrev pub judging_stop : ℕ → StepFault → Stop
judging_stop line judgings.OutOfMemory = stops.NoMemory
judging_stop line fault = stops.At line (Judging fault)

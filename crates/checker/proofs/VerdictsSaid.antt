-- From what judging comes to, to what the verdict says of the texts.
use Rattle.std.proofs.Common.{ℕ, List}
use Rattle.linear.specs.Opb.{Opb}
use Rattle.linear.specs.Limits.{IsWithin}
use Rattle.kernel.specs.Accepted.{Judgement}
use Rattle.opb_read.specs.Spells.{Spells}
use Rattle.opb_read.proofs.Spelled.{one_problem}
use Rattle.pb_text.specs.Devices.{SourceState}
use Rattle.checker.specs.Stopped.{IsStopped}
use Rattle.checker.specs.StopsBy.{StopsBy}
use Rattle.checker.specs.Streamed.{IsStreamVerdictOf, OfStream, StreamStopsBy, verdict_of}
use Rattle.checker.specs.Verdicts.{IsProved, IsRefusedProof, IsTrueOf, IsVerdictOf}
use Rattle.checker.specs.declared.stop.Stop.{Stop}
use Rattle.checker.specs.declared.stop.Stop.TheVariants as stops
use Rattle.checker.specs.declared.stream.StreamStop.TheVariants as streams
use Rattle.checker.specs.declared.stream_verdict.StreamVerdict.TheVariants.{Judged}
use Rattle.checker.specs.declared.verdict.Code.{Code}
use Rattle.checker.proofs.Claimed.{proved_claim}
use Rattle.checker.proofs.OneWalk.{stopped_never}
use Rattle.checker.proofs.Streaming.{of_stream_so}
use Rattle.checker.proofs.WalkOfProof.{walk_of}

-- what is proved of the problem that a text spells is true of the text
pub is_true : (text : List ℕ) (p : Opb) → Spells text p → IsWithin p → (a : Judgement) (proof : List ℕ) → IsProved p proof a → IsTrueOf text proof a
is_true text p spells within a proof proved = record {
  problem = p;
  spelled = spells;
  within = within;
  alone = λ other also. one_problem text other p also spells;
  claim = proved_claim p proof a proved;
  proved = proved;
}

-- where judging stops, the proof is refused
pub is_refused : (text : List ℕ) (p : Opb) → Spells text p → IsWithin p → (line : ℕ) (code : Code) (proof : List ℕ) → IsStopped p proof line code → IsRefusedProof text proof line code
is_refused text p spells within line code proof stopped = record {
  problem = p;
  spelled = spells;
  within = within;
  stopped = stopped;
  unproved = λ a proved. let walk = walk_of p proof a proved in stopped_never p proof walk.0 line code walk.1 walk.2 stopped;
}

pub stop_said : (text : List ℕ) (p : Opb) → Spells text p → IsWithin p → (proof : List ℕ) (stop : Stop) → StopsBy (IsStopped p proof) stop → IsVerdictOf text proof (verdict_of stop)
stop_said text p spells within proof (stops.At line code) stopped = is_refused text p spells within line code proof stopped
stop_said text p spells within proof stops.NoMemory stopped = tt

-- the same of what came from a source
pub stream_true : (text : List ℕ) (p : Opb) → Spells text p → IsWithin p → (s t : SourceState) (a : Judgement) → OfStream s t (λ proof. IsProved p proof a) → OfStream s t (λ proof. IsTrueOf text proof a)
stream_true text p spells within s t a proved = of_stream_so s t (λ proof. IsProved p proof a) (λ proof. IsTrueOf text proof a) (λ proof. is_true text p spells within a proof) proved

pub stream_stop_said : (text : List ℕ) (p : Opb) → Spells text p → IsWithin p → (s t : SourceState) (stop : Stop) → StreamStopsBy p s t (streams.Judging stop) → IsStreamVerdictOf text s t (Judged (verdict_of stop))
stream_stop_said text p spells within s t (stops.At line code) stopped =
    of_stream_so s t (λ proof. IsStopped p proof line code) (λ proof. IsRefusedProof text proof line code) (λ proof. is_refused text p spells within line code proof) stopped
stream_stop_said text p spells within s t stops.NoMemory stopped = stopped

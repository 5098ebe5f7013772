-- What a verdict says of a proof that comes from a source in pieces.
use Rattle.std.specs.Prelude.{◌≡◌, ◌⊎◌, ℕ, ◌+◌, true, List, ◌++◌}
use Rattle.linear.specs.Opb.{Opb}
use Rattle.pb_text.specs.Devices.{SourceState, followed_by}
use Rattle.checker.specs.Stopped.{IsStopped}
use Rattle.checker.specs.Verdicts.{IsBadProblem, IsRefusedProof, IsTrueOf, SpellsProblem}
use Rattle.checker.specs.declared.stop.Stop.{Stop}
use Rattle.checker.specs.declared.stop.Stop.TheVariants as stops
use Rattle.checker.specs.declared.stream.StreamStop.{StreamStop}
use Rattle.checker.specs.declared.stream.StreamStop.TheVariants as streams
use Rattle.checker.specs.declared.stream_verdict.StreamVerdict.{StreamVerdict}
use Rattle.checker.specs.declared.stream_verdict.StreamVerdict.TheVariants.{Judged, ReadFailed}
use Rattle.checker.specs.declared.verdict.Verdict.{Verdict}
use Rattle.checker.specs.declared.verdict.Verdict.TheVariants as verdicts

-- This holds of every text that begins with the bytes that came from the source, or of just these, where its end was seen; and no
-- pull failed.
pub record OfStream (before after : SourceState) (Holds : List ℕ → Type 0) : Type 0 where
  pub pulled : List ℕ
  pub given : after.given ≡ followed_by before.given pulled
  pub failures : after.failures ≡ before.failures
  pub holds : ((after.at_end ≡ true) × Holds pulled) ⊎ ((more : List ℕ) → Holds (pulled ++ more))

-- a pull failed
abbrev pub HasFailed : SourceState → SourceState → Type 0
HasFailed before after = after.failures ≡ before.failures + 1

-- no pull failed
abbrev pub HasNotFailed : SourceState → SourceState → Type 0
HasNotFailed before after = after.failures ≡ before.failures

-- why judging what comes from a source stops
abbrev pub StreamStopsBy : Opb → SourceState → SourceState → StreamStop → Type 0
StreamStopsBy p before after streams.ReadFailed = HasFailed before after
StreamStopsBy p before after (streams.Judging (stops.At line code)) = OfStream before after (λ proof. IsStopped p proof line code)
StreamStopsBy p before after (streams.Judging stops.NoMemory) = HasNotFailed before after

-- the verdict where judging stops
abbrev pub verdict_of : Stop → Verdict
verdict_of (stops.At line code) = verdicts.Refused line code
verdict_of stops.NoMemory = verdicts.NoMemory

-- What a verdict says of the text of a problem and of a proof that came from a source: what it says of every text that begins as
-- the proof does, or of just what came, where the source was seen to end. Of a bad problem no proof is asked for. That the source
-- failed is said only where it did, and of a problem; that memory ran out, only where it did not.
abbrev pub IsStreamVerdictOf : List ℕ → SourceState → SourceState → StreamVerdict → Type 0
IsStreamVerdictOf text before after (Judged (verdicts.Accepted accepted)) = OfStream before after (λ proof. IsTrueOf text proof accepted)
IsStreamVerdictOf text before after (Judged (verdicts.Refused line code)) = OfStream before after (λ proof. IsRefusedProof text proof line code)
IsStreamVerdictOf text before after (Judged (verdicts.BadProblem fault)) = IsBadProblem text fault × (after ≡ before)
IsStreamVerdictOf text before after (Judged verdicts.NoMemory) = HasNotFailed before after
IsStreamVerdictOf text before after ReadFailed = SpellsProblem text × HasFailed before after

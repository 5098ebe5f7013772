-- Lines that come from a source: what is judged by them is so of every text that begins as they do.
use Rattle.std.proofs.Common.{◌≡◌, ◌⊎◌, inl, inr, ℕ, ◌+◌, Bool, true, false, Err, IsErrOf, Option, Some, List, [], ◌∷◌, ◌++◌, refl, sym, ap, subst, ◌∙◌, arith}
use Rattle.std.proofs.lemmas.List.{append-nil, append_assoc}
use Rattle.linear.specs.Opb.{Opb}
use Rattle.kernel.specs.Accepted.{Judgement}
use Rattle.pb_text.specs.Devices.{SourceState, followed_by}
use Rattle.proof_lines.specs.Buffered.{Buffered, Comes, GoesOn, IsEmptied, PassesLines, lent}
use Rattle.proof_lines.specs.Lines.{Numbered, breaks, counting_from, lines_of}
use Rattle.proof_lines.specs.declared.line_buffer.LineFault.{LineFault}
use Rattle.proof_lines.specs.declared.line_buffer.LineFault.TheVariants as faults
use Rattle.proof_lines.proofs.LinesBuffered.{passes_on}
use Rattle.proof_lines.proofs.LinesParted.{nothing_left}
use Rattle.checker.specs.Stopped.{IsStopped, IsTruncated}
use Rattle.checker.specs.StopsBy.{StopsBy}
use Rattle.checker.specs.Streamed.{IsStreamVerdictOf, OfStream, StreamStopsBy}
use Rattle.checker.specs.StreamStops.{stop_of}
use Rattle.checker.specs.Verdicts.{IsProved, IsRefusedProof, IsTrueOf, IsVerdictOf}
use Rattle.checker.specs.Walk.{IsOver, Position, Reaches}
use Rattle.checker.specs.declared.stop.Stop.{Stop}
use Rattle.checker.specs.declared.stop.Stop.TheVariants as stops
use Rattle.checker.specs.declared.stream.StreamStop.TheVariants as streams
use Rattle.checker.specs.declared.stream_verdict.StreamVerdict.TheVariants.{Judged}
use Rattle.checker.specs.declared.verdict.Code.{Code}
use Rattle.checker.specs.declared.verdict.Verdict.{Verdict}
use Rattle.checker.specs.declared.verdict.Verdict.TheVariants as verdicts
use Rattle.checker.proofs.ProofOfWalk.{proved_at_end}
use Rattle.checker.proofs.Walking.{NowhereAt, stops_so}

-- nothing came yet
pub record IsFresh (b : Buffered) : Type 0 where
  pub number : b.number ≡ 1
  pub bytes : b.bytes ≡ []
  pub ended : b.ended ≡ false

-- of the lines of a text these were read, and the others are here or follow
record HasRead (text : List ℕ) (read : List Numbered) (b : Buffered) (more : List ℕ) : Type 0 where
  lines : (lines_of text).lines ≡ read ++ counting_from b.number (b.bytes ++ more)
  last : (lines_of text).last ≡ b.number + breaks (b.bytes ++ more)

not_both : (t : Bool) → t ≡ true → t ≡ false → ⊥
not_both t e f = cc

-- what holds wherever these lines were read holds of what came
of_stream : (fresh b : Buffered) (s t : SourceState) (read : List Numbered) (H : List ℕ → Type 0) → IsFresh fresh → PassesLines fresh b s t read
    → ((text more : List ℕ) → GoesOn b more → HasRead text read b more → H text) → OfStream s t H
of_stream fresh b s t read H start passes by = record {
  pulled = passes.pulled;
  given = passes.given;
  failures = passes.failures;
  holds = holds b.ended refl;
}
  where
    has : (more : List ℕ) → GoesOn b more → HasRead (passes.pulled ++ more) read b more
    has more goes = record {
      lines = ap (λ n. counting_from n (passes.pulled ++ more)) (sym start.number) ∙ ap (λ r. counting_from fresh.number ((r ++ passes.pulled) ++ more)) (sym start.bytes) ∙ passes.lines more goes;
      last = ap (λ n. n + breaks (passes.pulled ++ more)) (sym start.number) ∙ ap (λ r. fresh.number + breaks ((r ++ passes.pulled) ++ more)) (sym start.bytes) ∙ passes.last more goes;
    }

    holds : (ended : Bool) → b.ended ≡ ended → ((t.at_end ≡ true) × H passes.pulled) ⊎ ((more : List ℕ) → H (passes.pulled ++ more))
    holds true e = inl (
      passes.at_end (λ f. absurd (not_both fresh.ended f start.ended)) e,
      subst H (append-nil passes.pulled) (by (passes.pulled ++ []) [] (λ f. refl) (has [] (λ f. refl))),
    )
    holds false e = inr (λ more. let goes : GoesOn b more = λ f. absurd (not_both b.ended f e) in by (passes.pulled ++ more) more goes (has more goes))

-- what holds of a text brings what holds of it
pub of_stream_so : (s t : SourceState) (H K : List ℕ → Type 0) → ((text : List ℕ) → H text → K text) → OfStream s t H → OfStream s t K
of_stream_so s t H K brings of = record { pulled = of.pulled; given = of.given; failures = of.failures; holds = by of.holds }
  where
    by : ((t.at_end ≡ true) × H of.pulled) ⊎ ((more : List ℕ) → H (of.pulled ++ more)) → ((t.at_end ≡ true) × K of.pulled) ⊎ ((more : List ℕ) → K (of.pulled ++ more))
    by (inl (end, h)) = inl (end, brings of.pulled h)
    by (inr h) = inr (λ more. brings (of.pulled ++ more) (h more))

-- no line comes
pub stream_fails : (p : Opb) (before source after : SourceState) (fault : LineFault) → source.failures ≡ before.failures → (IsErrOf {T = Bool} (Err fault) faults.ReadFailed → after.failures ≡ source.failures + 1)
    → (IsErrOf {T = Bool} (Err fault) faults.OutOfMemory → after.failures ≡ source.failures) → StreamStopsBy p before after (stop_of fault)
stream_fails p before source after faults.ReadFailed same failed memory = failed refl ∙ ap (λ n. n + 1) same
stream_fails p before source after faults.OutOfMemory same failed memory = memory refl ∙ same

-- judging stops at this line of what came
abbrev pub StopsInStream : Opb → SourceState → SourceState → ℕ → Code → Type 0
StopsInStream p s t line code = OfStream s t (λ proof. IsStopped p proof line code)

-- judging stops there, or memory runs out, and no pull failed
pub judging_stops : (p : Opb) (s t : SourceState) (stop : Stop) → t.failures ≡ s.failures → StopsBy (StopsInStream p s t) stop → StreamStopsBy p s t (streams.Judging stop)
judging_stops p s t (stops.At line code) same why = why
judging_stops p s t stops.NoMemory same why = same

-- a line leads nowhere
pub stream_stop : (p q : Opb) (fresh b : Buffered) (s t : SourceState) (at : Position) (read : List Numbered) (line next : Numbered) (stop : Stop) → q ≡ p → next ≡ line → IsFresh fresh
    → PassesLines fresh b s t (read ++ line ∷ []) → Reaches p read at → StopsBy (NowhereAt q at next) stop → StopsBy (StopsInStream p s t) stop
stream_stop p q fresh b s t at read line next stop same first start passes reached why = stops_so (NowhereAt q at next) (StopsInStream p s t) stop by why
  where
    by : (n : ℕ) (code : Code) → NowhereAt q at next n code → StopsInStream p s t n code
    by n code nowhere = of_stream fresh b s t (read ++ line ∷ []) (λ proof. IsStopped p proof n code) start passes (λ text more goes has. record {
      at = at;
      read = read;
      left = line ∷ counting_from b.number (b.bytes ++ more);
      in_order = has.lines ∙ append_assoc read (line ∷ []) (counting_from b.number (b.bytes ++ more));
      reached = reached;
      stops = subst (λ r. NowhereAt r at line n code) same (subst (λ l. NowhereAt q at l n code) first nowhere);
    })

-- no line is left of a text that ends here
none_left : (b : Buffered) (more : List ℕ) → IsEmptied b → GoesOn b more → b.bytes ++ more ≡ []
none_left b more emptied goes = ap (λ r. b.bytes ++ r) (goes emptied.ended) ∙ append-nil b.bytes ∙ emptied.none

all_lines : (text more : List ℕ) (read : List Numbered) (b : Buffered) → IsEmptied b → GoesOn b more → HasRead text read b more → (lines_of text).lines ≡ read ++ []
all_lines text more read b emptied goes has = has.lines ∙ ap (λ ls. read ++ ls) (ap (counting_from b.number) (none_left b more emptied goes) ∙ nothing_left b.number)

last_line : (text more : List ℕ) (read : List Numbered) (b : Buffered) → IsEmptied b → GoesOn b more → HasRead text read b more → (lines_of text).last ≡ b.number
last_line text more read b emptied goes has =
    let last = has.last in
    let none : breaks (b.bytes ++ more) ≡ 0 = ap breaks (none_left b more emptied goes) in
    omega (arith, last, none)

-- the text ends where a line is due
pub stream_short : (p : Opb) (fresh b : Buffered) (s t : SourceState) (at : Position) (read : List Numbered) (last : ℕ) (stop : Stop) → last ≡ b.number → IsFresh fresh → PassesLines fresh b s t read → IsEmptied b
    → Reaches p read at → StopsBy (IsTruncated at last) stop → StopsBy (StopsInStream p s t) stop
stream_short p fresh b s t at read last stop ends start passes emptied reached why = stops_so (IsTruncated at last) (StopsInStream p s t) stop by why
  where
    by : (n : ℕ) (code : Code) → IsTruncated at last n code → StopsInStream p s t n code
    by n code short = of_stream fresh b s t read (λ proof. IsStopped p proof n code) start passes (λ text more goes has. record {
      at = at;
      read = read;
      left = [];
      in_order = all_lines text more read b emptied goes has;
      reached = reached;
      stops = subst (λ l. IsTruncated at l n code) (ends ∙ sym (last_line text more read b emptied goes has)) short;
    })

-- the text ends behind the end line
pub stream_proved : (p : Opb) (fresh b : Buffered) (s t : SourceState) (at : Position) (read : List Numbered) (a : Judgement) → IsFresh fresh → PassesLines fresh b s t read → IsEmptied b → Reaches p read at
    → IsOver at → at.concluded ≡ Some a → OfStream s t (λ proof. IsProved p proof a)
stream_proved p fresh b s t at read a start passes emptied reached over concluded =
    of_stream fresh b s t read (λ proof. IsProved p proof a) start passes (λ text more goes has.
    let all = all_lines text more read b emptied goes has ∙ append-nil read in
    proved_at_end p text at a (subst (λ ls. Reaches p ls at) (sym all) reached) over concluded)

-- one line more came
pub came : (yes : Bool) (a b c : Buffered) (s t u : SourceState) (read : List Numbered) → PassesLines a b s t read → Comes yes b c t u → yes ≡ true → PassesLines a c s u (read ++ lent c ∷ [])
came true a b c s t u read passed comes is = passes_on a b c s t u read (lent c ∷ []) passed comes.0
came false a b c s t u read passed comes is = absurd cc

-- none came any more
pub came_to_end : (yes : Bool) (a b c : Buffered) (s t u : SourceState) (read : List Numbered) → PassesLines a b s t read → Comes yes b c t u → yes ≡ false → PassesLines a c s u read × IsEmptied c
came_to_end true a b c s t u read passed comes is = absurd cc
came_to_end false a b c s t u read passed comes is =
    (subst (λ ls. PassesLines a c s u ls) (append-nil read) (passes_on a b c s t u read [] passed comes.0), comes.1)

-- what is judged of what came is so of the text that came
given_text : (given : Option (List ℕ)) (proof pulled : List ℕ) → given ≡ Some [] → Some proof ≡ followed_by given pulled → pulled ≡ proof
given_text given proof pulled none all = cc (all ∙ ap (λ g. followed_by g pulled) none)

of_its_text : (before after : SourceState) (proof : List ℕ) (H : List ℕ → Type 0) → before.given ≡ Some [] → after.given ≡ Some proof → OfStream before after H → H proof
of_its_text before after proof H none all of = by of.holds
  where
    same : of.pulled ≡ proof
    same = given_text before.given proof of.pulled none (sym all ∙ of.given)

    by : ((after.at_end ≡ true) × H of.pulled) ⊎ ((more : List ℕ) → H (of.pulled ++ more)) → H proof
    by (inl (end, holds)) = subst H same holds
    by (inr holds) = subst H (append-nil of.pulled ∙ same) (holds [])

pub judged_as_text : (opb proof : List ℕ) (before after : SourceState) → before.given ≡ Some [] → after.given ≡ Some proof → (v : Verdict) → IsStreamVerdictOf opb before after (Judged v) → IsVerdictOf opb proof v
judged_as_text opb proof before after none all (verdicts.Accepted accepted) judged = of_its_text before after proof (λ text. IsTrueOf opb text accepted) none all judged
judged_as_text opb proof before after none all (verdicts.Refused line code) judged = of_its_text before after proof (λ text. IsRefusedProof opb text line code) none all judged
judged_as_text opb proof before after none all (verdicts.BadProblem fault) judged = judged.0
judged_as_text opb proof before after none all verdicts.NoMemory judged = tt

-- The walk of the code: what is read and accepted is one position further, and what is refused is where judging stops.
use Rattle.std.proofs.Common.{◌≡◌, ◌≢◌, ℕ, Option, Some, None, List, [], ◌∷◌, ◌++◌, refl, sym, ap, subst, ◌∙◌}
use Rattle.std.specs.Prelude.{MatchOption}
use Rattle.std.proofs.lemmas.List.{append-nil, append_assoc}
use Rattle.linear.specs.Opb.{Opb}
use Rattle.proof_rules.specs.Justified.{IsJustified}
use Rattle.proof_rules.specs.Legal.{Legal}
use Rattle.proof_rules.specs.State.{State, IsStart}
use Rattle.proof_lines.specs.Lines.{Numbered, lines_of}
use Rattle.proof_lines.specs.LinesAhead.{numbered_of}
use Rattle.proof_lines.specs.declared.numbered_lines.NumberedLine.{NumberedLine}
use Rattle.proof_text.specs.declared.fault.ProofFault.{ProofFault}
use Rattle.proof_text.specs.declared.fault.ProofFault.TheVariants as readings
use Rattle.proof_text.specs.declared.line.Line.{Line}
use Rattle.proof_text.specs.declared.line.Line.TheVariants as lines
use Rattle.proof_text.specs.Sections.{section_behind}
use Rattle.proof_text.specs.declared.line.Section.{Section}
use Rattle.proof_text.specs.declared.line.Section.TheVariants as sections
use Rattle.kernel.specs.Held.{Held}
use Rattle.checker.specs.Stopped.{IsStopped, IsTruncated, LeadsNowhere, Refuses}
use Rattle.checker.specs.Stopped.{refused}
use Rattle.checker.specs.StopsBy.{StopsBy, reading_stop}
use Rattle.checker.specs.Walk.{Accepts, Advances, Position, Reaches, Walks, beginning}
use Rattle.checker.specs.WalkOf.{Reads}
use Rattle.checker.specs.declared.stop.Stop.{Stop}
use Rattle.checker.specs.declared.stop.Stop.TheVariants as stops
use Rattle.checker.specs.declared.verdict.Code.{Code}
use Rattle.checker.specs.declared.verdict.Code.TheVariants.{Reading}

-- a fault other than out of memory stops at its line
pub stops_reading : (why : ℕ → Code → Type 0) (line : ℕ) (fault : ProofFault) → (fault ≢ readings.OutOfMemory → why line (Reading fault)) → StopsBy why (reading_stop line fault)
stops_reading why line readings.OutOfMemory reason = tt
stops_reading why line readings.BadHeader reason = reason (λ e. cc)
stops_reading why line readings.BadCount reason = reason (λ e. cc)
stops_reading why line readings.UnknownRule reason = reason (λ e. cc)
stops_reading why line readings.RuleLeftOut reason = reason (λ e. cc)
stops_reading why line readings.BadLine reason = reason (λ e. cc)
stops_reading why line readings.Truncated reason = reason (λ e. cc)
stops_reading why line readings.TextAfterEnd reason = reason (λ e. cc)
stops_reading why line readings.IntegerTooLarge reason = reason (λ e. cc)
stops_reading why line readings.TooManyIds reason = reason (λ e. cc)

-- judging stops for a reason that another one brings with it
pub stops_so : (why so : ℕ → Code → Type 0) (stop : Stop) → ((line : ℕ) (code : Code) → why line code → so line code) → StopsBy why stop → StopsBy so stop
stops_so why so (stops.At line code) brings stop = brings line code stop
stops_so why so stops.NoMemory brings stop = tt

-- what was accepted where nothing but the reading went before, and only the section changes behind
accepts_within : (p : Opb) (old mid new end : Position) (said : Line) → mid.state ≡ old.state → mid.concluded ≡ old.concluded → end.state ≡ new.state → end.concluded ≡ new.concluded
    → Accepts p mid said new → Accepts p old said end
accepts_within p old mid new end lines.Header state concluded later kept a = record { state = later ∙ a.state ∙ state; concluded = kept ∙ a.concluded ∙ concluded }
accepts_within p old mid new end (lines.Count n) state concluded later kept a = (a.0, record { state = later ∙ a.1.state ∙ state; concluded = kept ∙ a.1.concluded ∙ concluded })
accepts_within p old mid new end (lines.Step step) state concluded later kept a =
    record { legal = subst (λ s. Legal p old.state step s) (sym later) (subst (λ s. Legal p s step new.state) state a.legal); concluded = kept ∙ a.concluded ∙ concluded }
accepts_within p old mid new end lines.Output state concluded later kept a = record { state = later ∙ a.state ∙ state; concluded = kept ∙ a.concluded ∙ concluded }
accepts_within p old mid new end (lines.Conclusion c) state concluded later kept a =
    record { best = a.best; justified = subst (λ s. IsJustified p s c a.best) state a.justified; state = later ∙ a.state ∙ state; concluded = kept ∙ a.concluded }
accepts_within p old mid new end lines.End state concluded later kept a = record { state = later ∙ a.state ∙ state; concluded = kept ∙ a.concluded ∙ concluded }

-- another section at a position
abbrev pub moved : Position → Section → Position
moved at section = record at { section = section }

-- a line that is read and accepted
pub advances_by : (p : Opb) (line : Numbered) (old mid new : Position) (said : Line) → Reads line old mid said → Accepts p mid said new → new.section ≡ mid.section → new.names ≡ mid.names
    → Advances p line old (moved new (section_behind new.section said))
advances_by p line old mid new said reads accepts section names =
    let state = ap (λ (x : Position). x.state) reads.now_at in
    let before = ap (λ (x : Position). x.section) reads.now_at in
    let concluded = ap (λ (x : Position). x.concluded) reads.now_at in
    let end : Position = moved new (section_behind new.section said) in
    let within : Accepts p old said end = accepts_within p old mid new end said state concluded refl refl accepts in
    record {
      next = reads.next;
      section = ap (λ q. section_behind q said) (section ∙ before) ∙ ap (section_behind old.section) reads.said_is;
      names = names ∙ ap (λ (x : Position). x.names) reads.now_at;
      accepts = subst (λ l. Accepts p old l end) reads.said_is within;
    }

-- what is read is refused at the line of this number
abbrev pub RefusesAt : ℕ → Held → Line → ℕ → Code → Type 0
RefusesAt number k said line code = (line ≡ number) × Refuses k.problem k.state said code

-- the line leads nowhere
abbrev pub NowhereAt : Opb → Position → Numbered → ℕ → Code → Type 0
NowhereAt p at next line code = (line ≡ next.number) × LeadsNowhere p at next code

-- a line that is read and refused; `k` is the kernel in the words of the code
pub stops_refused : (p : Opb) (next : Numbered) (old mid : Position) (k : Held) (said : Line) (stop : Stop) → k.problem ≡ p → k.state ≡ mid.state → Reads next old mid said → StopsBy (RefusesAt next.number k said) stop
    → StopsBy (NowhereAt p old next) stop
stops_refused p next old mid k said stop same stands reads why = stops_so (RefusesAt next.number k said) (NowhereAt p old next) stop by why
  where
    state : k.state ≡ old.state
    state = stands ∙ ap (λ (x : Position). x.state) reads.now_at

    by : (line : ℕ) (code : Code) → RefusesAt next.number k said line code → NowhereAt p old next line code
    by line code r = (
      r.0,
      refused (record {
        next = reads.next;
        refuses = subst (λ l. Refuses p old.state l code) reads.said_is (subst (λ s. Refuses p s said code) state (subst (λ q. Refuses q k.state said code) same r.1));
      }),
    )

-- one line behind others
walks_on : (p : Opb) (at old new : Position) (read : List Numbered) (line : Numbered) → Walks p at read old → Advances p line old new → Walks p at (read ++ line ∷ []) new
walks_on p at old new [] line walks on = (new, subst (λ q. Advances p line q new) walks on, refl)
walks_on p at old new (l ∷ ls) line walks on = (walks.0, walks.1, walks_on p walks.0 old new ls line walks.2 on)

pub reaches_on : (p : Opb) (read : List Numbered) (line : Numbered) (old new : Position) → Reaches p read old → Advances p line old new → Reaches p (read ++ line ∷ []) new
reaches_on p read line old new reached on =
    record { start = reached.start; starts = reached.starts; walks = walks_on p (beginning p reached.start) old new read line reached.walks on }

-- one line more that was read is one fewer that is left
pub read_on : {A : Type 0} (all read : List A) (line : A) (left behind : List A) → all ≡ read ++ left → left ≡ line ∷ behind → all ≡ (read ++ line ∷ []) ++ behind
read_on all read line left behind in_order next = in_order ∙ ap (λ ls. read ++ ls) next ∙ sym (append_assoc read (line ∷ []) behind)

-- the reader has no more
pub none_left : (o : Option NumberedLine) (left behind : List Numbered) → o ≡ None → MatchOption o ((left ≡ []) × (behind ≡ [])) (λ l. left ≡ numbered_of l ∷ behind) → left ≡ []
none_left None left behind e none = none.0
none_left (Some l) left behind e next = cc

-- where a line leads nowhere, judging stops
pub stopped_at : (p q : Opb) (proof : List ℕ) (at : Position) (read left behind : List Numbered) (next : Numbered) (stop : Stop) → q ≡ p → Reaches p read at → (lines_of proof).lines ≡ read ++ left
    → left ≡ next ∷ behind → StopsBy (NowhereAt q at next) stop → StopsBy (IsStopped p proof) stop
stopped_at p q proof at read left behind next stop same reached in_order first why = stops_so (NowhereAt q at next) (IsStopped p proof) stop by why
  where
    by : (line : ℕ) (code : Code) → NowhereAt q at next line code → IsStopped p proof line code
    by line code nowhere = record {
      at = at;
      read = read;
      left = next ∷ behind;
      in_order = in_order ∙ ap (λ ls. read ++ ls) first;
      reached = reached;
      stops = subst (λ r. NowhereAt r at next line code) same nowhere;
    }

-- where none is left and one is due, too
pub stopped_short : (p : Opb) (proof : List ℕ) (at : Position) (read left : List Numbered) (last : ℕ) (stop : Stop) → Reaches p read at → (lines_of proof).lines ≡ read ++ left → left ≡ []
    → last ≡ (lines_of proof).last → StopsBy (IsTruncated at last) stop → StopsBy (IsStopped p proof) stop
stopped_short p proof at read left last stop reached in_order none ends why = stops_so (IsTruncated at last) (IsStopped p proof) stop by why
  where
    by : (line : ℕ) (code : Code) → IsTruncated at last line code → IsStopped p proof line code
    by line code short = record {
      at = at;
      read = read;
      left = [];
      in_order = in_order ∙ ap (λ ls. read ++ ls) none;
      reached = reached;
      stops = subst (λ n. IsTruncated at n line code) ends short;
    }

-- all lines were read
pub all_read : (p : Opb) (all read left : List Numbered) (at : Position) → all ≡ read ++ left → left ≡ [] → Reaches p read at → Reaches p all at
all_read p all read left at in_order none reached =
    subst (λ ls. Reaches p ls at) (sym (in_order ∙ ap (λ ls. read ++ ls) none ∙ append-nil read)) reached

-- the walk before the first line
pub begins : (p : Opb) (names : List (List ℕ)) (start : State) → names ≡ p.names → IsStart p start
    → Reaches p [] (record { section = sections.Header; names = names; state = start; concluded = None })
begins p names start named starts = record {
  start = start;
  starts = starts;
  walks = ap at_header named;
}
  where
    at_header : List (List ℕ) → Position
    at_header n = record { section = sections.Header; names = n; state = start; concluded = None }

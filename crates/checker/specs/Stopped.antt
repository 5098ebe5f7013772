-- Where judging a proof stops, and why: the walk comes to a position, and no line leads on from there.
use Rattle.std.specs.Prelude.{◌≡◌, ◌≢◌, ℕ, pos, List, [], ◌∷◌, ◌++◌, ⊤}
use Rattle.linear.specs.Opb.{Opb}
use Rattle.proof_rules.specs.Fault.{IsStepFault, IsConclusionFault}
use Rattle.proof_rules.specs.Forms.{problem_ids}
use Rattle.proof_rules.specs.State.{State}
use Rattle.proof_rules.specs.declared.fault.StepFault.{StepFault}
use Rattle.proof_rules.specs.declared.fault.StepFault.TheVariants as judgings
use Rattle.proof_text.specs.Faults.{DeniesLine}
use Rattle.proof_lines.specs.Lines.{Numbered, lines_of}
use Rattle.proof_text.specs.Words.{words}
use Rattle.proof_text.specs.declared.fault.ProofFault.{ProofFault}
use Rattle.proof_text.specs.declared.fault.ProofFault.TheVariants as readings
use Rattle.proof_text.specs.declared.line.Line.{Line}
use Rattle.proof_text.specs.declared.line.Line.TheVariants as lines
use Rattle.proof_text.specs.declared.line.Section.TheVariants as sections
use Rattle.checker.specs.Walk.{Position, Next, Reaches}
use Rattle.checker.specs.declared.verdict.Code.{Code}
use Rattle.checker.specs.declared.verdict.Code.TheVariants.{Reading, Judging}

-- a line is due, and the text ends, which is so on the line `last`
pub record IsTruncated (at : Position) (last line : ℕ) (code : Code) : Type 0 where
  pub due : at.section ≢ sections.After
  pub line_is : line ≡ last
  pub code_is : code ≡ Reading readings.Truncated

-- a line cannot be read at the section that is due; behind the end none can
pub record IsUnread (at : Position) (next : Numbered) (code : Code) : Type 0 where
  pub fault : ProofFault
  pub code_is : code ≡ Reading fault
  pub no_memory : fault ≢ readings.OutOfMemory
  pub denied : DeniesLine fault at.section at.names (words next.text)

-- what is judged has a fault
abbrev pub IsFaulty : (StepFault → Type 0) → Code → Type 0
IsFaulty IsFault code = (f : StepFault) × (code ≡ Judging f) × (f ≢ judgings.OutOfMemory) × IsFault f

-- what a line says is not accepted: another count, or a fault
abbrev pub Refuses : Opb → State → Line → Code → Type 0
Refuses p s (lines.Count count) code = (count ≢ pos (problem_ids p.constraints)) × (code ≡ Reading readings.BadCount)
Refuses p s (lines.Step step) code = IsFaulty (IsStepFault p s step) code
Refuses p s (lines.Conclusion c) code = IsFaulty (IsConclusionFault p s c) code
Refuses p s _ code = ⊥

-- a line is read, and refused
pub record IsRefused (p : Opb) (at : Position) (line : Numbered) (code : Code) : Type 0 where
  pub next : Next at line
  pub refuses : Refuses p at.state next.said code

-- why a line leads nowhere from a position
pub data LeadsNowhere (p : Opb) (at : Position) (line : Numbered) (code : Code) : Type 0 where
  unread : IsUnread at line code → LeadsNowhere p at line code
  refused : IsRefused p at line code → LeadsNowhere p at line code

-- why no line leads on from a position, where these lines are left and the text ends on line `last`
abbrev pub Stops : Opb → Position → List Numbered → ℕ → ℕ → Code → Type 0
Stops p at [] last line code = IsTruncated at last line code
Stops p at (next ∷ behind) last line code = (line ≡ next.number) × LeadsNowhere p at next code

-- judging the proof of a problem stops at this line with this code: these lines were read and accepted, those are left, and none
-- leads on
pub record IsStopped (p : Opb) (proof : List ℕ) (line : ℕ) (code : Code) : Type 0 where
  pub at : Position
  pub read : List Numbered
  pub left : List Numbered
  pub in_order : (lines_of proof).lines ≡ read ++ left
  pub reached : Reaches p read at
  pub stops : Stops p at left (lines_of proof).last line code

-- The codes among which the definitions leave the choice open: those of a line that says nothing, or whose integers are
-- too large. A line that is nothing has no rule by which to tell what it fails to be, and it may have a large integer
-- too.
abbrev pub IsLeftOpen : Code → Type 0
IsLeftOpen (Reading readings.UnknownRule) = ⊤
IsLeftOpen (Reading readings.RuleLeftOut) = ⊤
IsLeftOpen (Reading readings.BadLine) = ⊤
IsLeftOpen (Reading readings.IntegerTooLarge) = ⊤
IsLeftOpen _ = ⊥

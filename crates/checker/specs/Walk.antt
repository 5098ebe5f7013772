-- Judging a proof as a walk: from position to position, each line that counts leads to the next one. A position knows nothing of
-- the lines that are left, so a walk is the same whether they lie in memory or are still to come.
use Rattle.std.specs.Prelude.{◌≡◌, ℕ, pos, Option, Some, None, Bool, List, [], ◌∷◌}
use Rattle.linear.specs.Opb.{Opb}
use Rattle.kernel.specs.Accepted.{Judgement}
use Rattle.proof_rules.specs.Forms.{problem_ids}
use Rattle.proof_rules.specs.Justified.{IsJustified}
use Rattle.proof_rules.specs.Legal.{Legal}
use Rattle.proof_rules.specs.State.{State, IsStart}
use Rattle.proof_steps.specs.declared.conclusion.Conclusion.{Conclusion}
use Rattle.proof_steps.specs.declared.step.Step.{Step}
use Rattle.proof_lines.specs.Lines.{Numbered}
use Rattle.proof_text.specs.Sections.{section_behind}
use Rattle.proof_text.specs.Spells.{IsLine}
use Rattle.proof_text.specs.Words.{words}
use Rattle.proof_text.specs.declared.line.Line.{Line}
use Rattle.proof_text.specs.declared.line.Line.TheVariants as lines
use Rattle.proof_text.specs.declared.line.Section.{Section}
use Rattle.proof_text.specs.declared.line.Section.TheVariants as sections

-- Where judging has come to: the section of the proof that is due, the names so far, the state, and what was concluded.
pub record Position : Type 0 where
  pub section : Section
  pub names : List (List ℕ)
  pub state : State
  pub concluded : Option Judgement

-- nothing that was judged changes
pub record Stays (old new : Position) : Type 0 where
  pub state : new.state ≡ old.state
  pub concluded : new.concluded ≡ old.concluded

-- a step that is legal
pub record TakesStep (p : Opb) (old new : Position) (step : Step) : Type 0 where
  pub legal : Legal p old.state step new.state
  pub concluded : new.concluded ≡ old.concluded

-- a conclusion that the state entitles to
pub record TakesConclusion (p : Opb) (old new : Position) (c : Conclusion) : Type 0 where
  pub best : Option (List Bool)
  pub justified : IsJustified p old.state c best
  pub state : new.state ≡ old.state
  pub concluded : new.concluded ≡ Some (record { conclusion = c; best = best })

-- what a line says is accepted at one position, and leads to another
abbrev pub Accepts : Opb → Position → Line → Position → Type 0
Accepts p old lines.Header new = Stays old new
Accepts p old (lines.Count count) new = (count ≡ pos (problem_ids p.constraints)) × Stays old new
Accepts p old (lines.Step step) new = TakesStep p old new step
Accepts p old lines.Output new = Stays old new
Accepts p old (lines.Conclusion c) new = TakesConclusion p old new c
Accepts p old lines.End new = Stays old new

-- what a line says at the section that is due at a position, and the names up to there
pub record Next (at : Position) (line : Numbered) : Type 0 where
  pub said : Line
  pub names : List (List ℕ)
  pub is : IsLine at.section at.names (words line.text) said names

-- a line is read, and accepted
pub record Advances (p : Opb) (line : Numbered) (old new : Position) : Type 0 where
  pub next : Next old line
  pub section : new.section ≡ section_behind old.section next.said
  pub names : new.names ≡ next.names
  pub accepts : Accepts p old next.said new

-- one line after another
abbrev pub Walks : Opb → Position → List Numbered → Position → Type 0
Walks p old [] new = new ≡ old
Walks p old (line ∷ more) new = (next : Position) × Advances p line old next × Walks p next more new

-- the position before the first line, in this state
abbrev pub beginning : Opb → State → Position
beginning p start = record {
  section = sections.Header;
  names = p.names;
  state = start;
  concluded = None;
}

-- judging these lines of a proof of the problem comes to this position
pub record Reaches (p : Opb) (read : List Numbered) (at : Position) : Type 0 where
  pub start : State
  pub starts : IsStart p start
  pub walks : Walks p (beginning p start) read at

-- no section is due
abbrev pub IsOver : Position → Type 0
IsOver at = at.section ≡ sections.After

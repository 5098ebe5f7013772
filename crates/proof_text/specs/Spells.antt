-- What it is for a line to spell something at its section.
use Rattle.std.specs.Prelude.{◌≡◌, ◌≤◌, ℕ, length, Bool, true, false, not, ◌&&◌, ◌||◌, if◌then◌else◌, Option, Some, None, List, [], ◌∷◌, drop, ⊤}
use Rattle.std.specs.Option.{option_map}
use Rattle.proof_steps.specs.declared.step.Step.{Step}
use Rattle.proof_text.specs.declared.keyword.Rule.{Rule}
use Rattle.proof_text.specs.declared.keyword.Rule.TheVariants as rules
use Rattle.proof_text.specs.declared.line.Section.{Section}
use Rattle.proof_text.specs.declared.line.Section.TheVariants as sections
use Rattle.proof_text.specs.declared.line.Line.{Line}
use Rattle.proof_text.specs.declared.line.Line.TheVariants as lines
use Rattle.proof_text.specs.Words.{are_words, unclosed, begins_integer, AreSmall}
use Rattle.linear.specs.Largest.{most_names}
use Rattle.proof_text.specs.Numbering.{names_in}
use Rattle.proof_text.specs.Frame.{header, count_of, output, ending}
use Rattle.proof_text.specs.Rules.{rule_of}
use Rattle.proof_text.specs.Steps.{step_of, counted, IsProper}
use Rattle.proof_text.specs.Conclusions.{conclusion_of, conclusion_literals}

-- outside blocks, in a block, in a goal
abbrev pub is_outside : Section → Bool
is_outside sections.Step = true
is_outside _ = false

abbrev pub is_block : Section → Bool
is_block sections.Block = true
is_block _ = false

abbrev pub is_goal : Section → Bool
is_goal sections.Goal = true
is_goal _ = false

-- may a step of a rule stand at a section, `numbered` being whether an integer stands behind the rule's own word: an id stands
-- behind the `end` of a goal alone
abbrev pub may_stand : Rule → Section → Bool → Bool
may_stand rules.Pol section numbered = is_outside section || is_block section || is_goal section
may_stand rules.Rup section numbered = is_outside section || is_block section || is_goal section
may_stand rules.Red section numbered = is_outside section
may_stand rules.Sol section numbered = is_outside section
may_stand rules.Soli section numbered = is_outside section
may_stand rules.Del section numbered = is_outside section
may_stand rules.Goal section numbered = is_block section
may_stand rules.End section numbered = is_goal section || (is_block section && not numbered)

-- do words begin with a rule's own word, and may no step of it stand at the section
abbrev pub is_misplaced : Section → List (List ℕ) → Bool
is_misplaced section [] = false
is_misplaced section (w ∷ rest) = elim (rule_of w) [ None ↦ false | Some rule ↦ not (may_stand rule section (begins_integer rest)) ]

-- the step that words say at a section
abbrev pub step_at_section : Section → List (List ℕ) → List (List ℕ) → Option Step
step_at_section section names ws = if is_misplaced section ws then None else step_of names ws

-- what words say at their section, the variables numbered by the table `names`
abbrev pub line_of : Section → List (List ℕ) → List (List ℕ) → Option Line
line_of sections.Header names ws = if are_words header (unclosed ws) then Some lines.Header else None
line_of sections.Count names ws = option_map (λ n. lines.Count n) (count_of (unclosed ws))
line_of sections.Step names ws = if are_words output (unclosed ws) then Some lines.Output else option_map (λ s. lines.Step s) (step_at_section sections.Step names ws)
line_of sections.Block names ws = option_map (λ s. lines.Step s) (step_at_section sections.Block names ws)
line_of sections.Goal names ws = option_map (λ s. lines.Step s) (step_at_section sections.Goal names ws)
line_of sections.Conclusion names ws = option_map (λ c. lines.Conclusion c) (conclusion_of names ws)
line_of sections.End names ws = if are_words ending (unclosed ws) then Some lines.End else None
line_of sections.After names ws = None

-- the words of a line that may bring names
abbrev pub naming : Section → List (List ℕ) → List (List ℕ)
naming sections.Step ws = counted ws
naming sections.Block ws = counted ws
naming sections.Goal ws = counted ws
naming sections.Conclusion ws = conclusion_literals ws
naming _ ws = []

-- the words of a line whose integers count
abbrev pub measured : Section → List (List ℕ) → List (List ℕ)
measured sections.Count ws = unclosed ws
measured sections.Step ws = counted ws
measured sections.Block ws = counted ws
measured sections.Goal ws = counted ws
measured sections.Conclusion ws = drop 1 (unclosed (drop 1 ws))
measured _ ws = []

-- no name stands twice on the left of a substitution
abbrev pub IsProperLine : Line → Type 0
IsProperLine (lines.Step step) = IsProper step
IsProperLine _ = ⊤

-- The words of a line are this at their section: the variables are numbered by the table `new`, which is the table `old`
-- and the names that the line brings, in order, and has no more than can be numbered; and the integers are within 2^120.
pub record IsLine (section : Section) (old : List (List ℕ)) (ws : List (List ℕ)) (line : Line) (new : List (List ℕ)) : Type 0 where
  pub names : new ≡ names_in old (naming section ws)
  pub few : length new ≤ most_names
  pub says : line_of section new ws ≡ Some line
  pub proper : IsProperLine line
  pub small : AreSmall (measured section ws)

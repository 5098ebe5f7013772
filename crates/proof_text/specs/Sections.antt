-- The sections of a proof: which one is due behind a line, where a step may stand, and when blocks are closed.
use Rattle.std.specs.Prelude.{◌≡◌, ◌⊎◌, List, [], ◌∷◌}
use Rattle.proof_steps.specs.declared.step.Step.{Step}
use Rattle.proof_steps.specs.declared.step.Step.TheVariants as steps
use Rattle.proof_text.specs.declared.line.Line.{Line}
use Rattle.proof_text.specs.declared.line.Line.TheVariants as lines
use Rattle.proof_text.specs.declared.line.Section.{Section}
use Rattle.proof_text.specs.declared.line.Section.TheVariants as sections

-- what is due behind an `end`: it closes the goal that is open, or else the block
abbrev pub behind_end : Section → Section
behind_end sections.Goal = sections.Block
behind_end sections.Block = sections.Step
behind_end section = section

-- what is due behind a step at a section: `red .. begin` opens a block and `proofgoal` a goal, `end` closes one of them, and
-- any other step leaves the section as it is
abbrev pub behind_step : Section → Step → Section
behind_step section (steps.Pol items) = section
behind_step section (steps.Rup c) = section
behind_step section (steps.Red c images) = section
behind_step section (steps.Sol listing) = section
behind_step section (steps.Soli listing) = section
behind_step section (steps.Del ids) = section
behind_step section (steps.RedBegin c images) = sections.Block
behind_step section (steps.Goal goal) = sections.Goal
behind_step section steps.End = behind_end section

-- what is due behind a line that says this at a section: a line that is no step ends its section
abbrev pub section_behind : Section → Line → Section
section_behind section lines.Header = sections.Count
section_behind section (lines.Count count) = sections.Step
section_behind section (lines.Step step) = behind_step section step
section_behind section lines.Output = sections.Conclusion
section_behind section (lines.Conclusion conclusion) = sections.End
section_behind section lines.End = sections.After

-- a section of steps: outside blocks, in a block, or in a goal of one
abbrev pub HasSteps : Section → Type 0
HasSteps section = (section ≡ sections.Step) ⊎ (section ≡ sections.Block) ⊎ (section ≡ sections.Goal)

-- the sections at which a step may stand
abbrev pub StepStands : Section → Step → Type 0
StepStands section (steps.Pol items) = HasSteps section
StepStands section (steps.Rup c) = HasSteps section
StepStands section (steps.Red c images) = section ≡ sections.Step
StepStands section (steps.Sol listing) = section ≡ sections.Step
StepStands section (steps.Soli listing) = section ≡ sections.Step
StepStands section (steps.Del ids) = section ≡ sections.Step
StepStands section (steps.RedBegin c images) = section ≡ sections.Step
StepStands section (steps.Goal goal) = section ≡ sections.Block
StepStands section steps.End = (section ≡ sections.Block) ⊎ (section ≡ sections.Goal)

-- the sections at which a line may stand
abbrev pub LineStands : Section → Line → Type 0
LineStands section lines.Header = section ≡ sections.Header
LineStands section (lines.Count count) = section ≡ sections.Count
LineStands section (lines.Step step) = StepStands section step
LineStands section lines.Output = section ≡ sections.Step
LineStands section (lines.Conclusion conclusion) = section ≡ sections.Conclusion
LineStands section lines.End = section ≡ sections.End

-- steps from a section on, each where it may stand, with no block left open
abbrev pub AreNested : Section → List Step → Type 0
AreNested section [] = section ≡ sections.Step
AreNested section (step ∷ more) = StepStands section step × AreNested (behind_step section step) more

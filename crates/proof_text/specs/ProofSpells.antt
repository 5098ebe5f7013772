-- What the text of a whole proof spells.
use Rattle.std.specs.Prelude.{◌≡◌, ℕ, ℤ, List, [], ◌∷◌, ◌++◌}
use Rattle.proof_steps.specs.declared.step.Step.{Step}
use Rattle.proof_steps.specs.declared.conclusion.Conclusion.{Conclusion}
use Rattle.proof_text.specs.declared.line.Line.TheVariants as lines
use Rattle.proof_text.specs.declared.line.Section.{Section}
use Rattle.proof_text.specs.declared.line.Section.TheVariants as sections
use Rattle.proof_lines.specs.Lines.{Numbered, lines_of}
use Rattle.proof_text.specs.Words.{words}
use Rattle.proof_text.specs.Sections.{behind_step}
use Rattle.proof_text.specs.Spells.{IsLine}

-- lines that say steps from a section on, one each: a table of names grows from line to line, blocks and goals open and
-- close, and at the end none is open
abbrev pub AreSteps : Section → List (List ℕ) → List Numbered → List Step → List (List ℕ) → Type 0
AreSteps section old [] [] new = (section ≡ sections.Step) × (new ≡ old)
AreSteps section old (line ∷ rest) (step ∷ more) new =
    (between : List (List ℕ)) × IsLine section old (words line.text) (lines.Step step) between × AreSteps (behind_step section step) between rest more new
AreSteps section old _ _ new = ⊥

-- The lines of the text that count are, in order: the header, the count, a line for each step, the output line, the
-- conclusion and the end line. The proof's new names are numbered behind those of the file.
pub record SpellsProof (text : List ℕ) (file : List (List ℕ)) (count : ℤ) (steps : List Step) (c : Conclusion) : Type 0 where
  pub header : Numbered
  pub counted : Numbered
  pub output : Numbered
  pub concluded : Numbered
  pub ended : Numbered
  pub between : List Numbered
  pub in_order : (lines_of text).lines ≡ header ∷ counted ∷ (between ++ output ∷ concluded ∷ ended ∷ [])
  pub named : List (List ℕ)
  pub after : List (List ℕ)
  pub all : List (List ℕ)
  pub header_is : IsLine sections.Header file (words header.text) lines.Header file
  pub count_is : IsLine sections.Count file (words counted.text) (lines.Count count) file
  pub steps_are : AreSteps sections.Step file between steps named
  pub output_is : IsLine sections.Step named (words output.text) lines.Output after
  pub conclusion_is : IsLine sections.Conclusion after (words concluded.text) (lines.Conclusion c) all
  pub end_is : IsLine sections.End all (words ended.text) lines.End all

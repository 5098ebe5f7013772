-- The text of a whole proof as it is written.
use Rattle.std.specs.Prelude.{◌≡◌, ◌≤◌, ℕ, pos, List, [], ◌∷◌, ◌++◌, All, codes, length}
use Rattle.std.specs.List.{flat_map}
use Rattle.pb_text.specs.Number.{largest_number}
use Rattle.linear.specs.Table.{IsTable}
use Rattle.proof_steps.specs.declared.conclusion.Conclusion.{Conclusion}
use Rattle.proof_steps.specs.declared.step.Step.{Step}
use Rattle.proof_text.specs.Sections.{AreNested}
use Rattle.proof_text.specs.Steps.{IsProper}
use Rattle.proof_text.specs.Writable.{IsStepWritable}
use Rattle.proof_text.specs.declared.line.Section.TheVariants as sections
use Rattle.proof_write.specs.Writing.{spaced, number_words, step_words, conclusion_words, line_text}

-- the header, and the line that says how many constraints the file has
abbrev pub first_lines : ℕ → List ℕ
first_lines count = codes "pseudo-Boolean proof version 2.0\n" ++ codes "f" ++ spaced (number_words (pos count)) ++ codes "\n"

-- a step's line and its LF
abbrev pub step_line : List (List ℕ) → Step → List ℕ
step_line names step = line_text (step_words names step) ++ 10 ∷ []

-- the lines behind the steps
abbrev pub last_lines : List (List ℕ) → Conclusion → List ℕ
last_lines names c = codes "output NONE\n" ++ codes "conclusion" ++ spaced (conclusion_words names c) ++ codes "\nend pseudo-Boolean proof\n"

-- the first lines, and a line for each step
abbrev pub begun_text : List (List ℕ) → ℕ → List Step → List ℕ
begun_text names count steps = first_lines count ++ flat_map (step_line names) steps

-- the first lines, a line for each step, and the last lines
abbrev pub whole_text : List (List ℕ) → ℕ → List Step → Conclusion → List ℕ
whole_text names count steps c = begun_text names count steps ++ last_lines names c

-- The text is that of a proof as far as it has come, of a file with these names and so many constraints: the first lines,
-- and a line for each of these steps, of which each can be written. They are well nested, and no block is open.
pub record AreWritten (text : List ℕ) (names : List (List ℕ)) (count : ℕ) (steps : List Step) : Type 0 where
  pub lines : text ≡ begun_text names count steps
  pub table : IsTable names
  pub few : count ≤ largest_number
  pub writable : All (IsStepWritable (length names)) steps
  pub proper : All IsProper steps
  pub nested : AreNested sections.Step steps

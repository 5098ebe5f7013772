-- The text of a proof grows by the line of a step, and with the last lines it spells what it was made of.
use Rattle.std.proofs.Common.{◌≡◌, ℕ, pos, List, [], ◌∷◌, ◌++◌, length, refl, sym, ap, subst, ◌∙◌, append_assoc, ◌≤◌, arith, codes}
use Rattle.std.specs.List.{flat_map}
use Rattle.std.proofs.lemmas.List.{append-nil, length-append}
use Rattle.std.proofs.lemmas.List.Elements.{All-nil, All-cons, All-append}
use Rattle.pb_text.specs.Number.{largest_number}
use Rattle.linear.specs.Table.{IsTable}
use Rattle.proof_steps.specs.declared.conclusion.Conclusion.{Conclusion}
use Rattle.proof_steps.specs.declared.step.Step.{Step}
use Rattle.proof_text.specs.ProofSpells.{SpellsProof}
use Rattle.proof_text.specs.declared.line.Section.TheVariants as sections
use Rattle.proof_text.specs.Sections.{StepStands, behind_step}
use Rattle.proof_text.specs.Steps.{IsProper}
use Rattle.proof_text.specs.Writable.{IsConclusionWritable, IsStepWritable}
use Rattle.proof_text.proofs.Placed.{nested_more}
use Rattle.proof_write.specs.Whole.{AreWritten, first_lines, step_line, last_lines}
use Rattle.proof_write.specs.Writing.{IsEndWritten, IsStepWritten, conclusion_words, line_text, spaced, step_words}
use Rattle.proof_write.proofs.WholeBack.{whole_back}
use Rattle.proof_write.proofs.WordsAppended.{flat_map-last, four_apart}

-- what `write_step` appends is the line of the step
pub line_appended : (names : List (List ℕ)) (old : List ℕ) (step : Step) (new : List ℕ) → IsStepWritten names old step new → new ≡ old ++ step_line names step
line_appended names old step new w =
    w.appended ∙ ap (λ l. old ++ l ++ 10 ∷ []) w.text ∙ append_assoc old (line_text (step_words names step)) (10 ∷ [])

-- and what `write_end` appends are the last lines
pub end_appended : (names : List (List ℕ)) (old : List ℕ) (c : Conclusion) (new : List ℕ) → IsEndWritten names old c new → new ≡ old ++ last_lines names c
end_appended names old c new w =
    let words = spaced (conclusion_words names c) in
    w.appended
    ∙ ap (λ line. old ++ codes "output NONE\n" ++ line ++ codes "\nend pseudo-Boolean proof\n") w.text
    ∙ ap (λ t. t ++ codes "\nend pseudo-Boolean proof\n") (sym (append_assoc (old ++ codes "output NONE\n") (codes "conclusion") words))
    ∙ four_apart old (codes "output NONE\n") (codes "conclusion") words (codes "\nend pseudo-Boolean proof\n")

pub nothing_written : (text : List ℕ) (names : List (List ℕ)) (count : ℕ) → text ≡ first_lines count → IsTable names → count ≤ largest_number → AreWritten text names count []
nothing_written text names count is table few = record {
  lines = is ∙ sym (append-nil (first_lines count));
  table = table;
  few = few;
  writable = All-nil (IsStepWritable (length names));
  proper = All-nil IsProper;
  nested = refl;
}

pub one_more_written : (text : List ℕ) (names : List (List ℕ)) (count : ℕ) (steps : List Step) (step : Step) → AreWritten text names count steps → IsStepWritable (length names) step → IsProper step
    → StepStands sections.Step step → behind_step sections.Step step ≡ sections.Step → AreWritten (text ++ step_line names step) names count (steps ++ step ∷ [])
one_more_written text names count steps step w writable proper stands behind = record {
  lines =
      ap (λ t. t ++ step_line names step) w.lines
      ∙ append_assoc (first_lines count) (flat_map (step_line names) steps) (step_line names step)
      ∙ ap (λ t. first_lines count ++ t) (sym (flat_map-last (step_line names) steps step));
  table = w.table;
  few = w.few;
  writable = All-append (IsStepWritable (length names)) steps (step ∷ []) w.writable (All-cons (IsStepWritable (length names)) step [] writable (All-nil (IsStepWritable (length names))));
  proper = All-append IsProper steps (step ∷ []) w.proper (All-cons IsProper step [] proper (All-nil IsProper));
  nested = nested_more sections.Step steps step w.nested stands behind;
}

-- with the last lines, the text spells its steps and what they conclude
pub written_spells : (text : List ℕ) (names : List (List ℕ)) (count : ℕ) (steps : List Step) (c : Conclusion) → AreWritten text names count steps → IsConclusionWritable (length names) c
    → SpellsProof (text ++ last_lines names c) names (pos count) steps c
written_spells text names count steps c w writable =
    subst (λ t. SpellsProof (t ++ last_lines names c) names (pos count) steps c) (sym w.lines)
    (whole_back names count steps c w.table w.few w.writable w.proper w.nested writable)

lines_long : (names : List (List ℕ)) (steps : List Step) → length steps ≤ length (flat_map (step_line names) steps)
lines_long names [] = omega arith
lines_long names (step ∷ more) =
    let later = lines_long names more in
    let here = length-append (line_text (step_words names step)) (10 ∷ []) in
    let all = length-append (step_line names step) (flat_map (step_line names) more) in
    omega (arith, later, here, all)

-- each step takes a byte at least
pub no_more_steps : (text : List ℕ) (names : List (List ℕ)) (count : ℕ) (steps : List Step) → AreWritten text names count steps → length steps ≤ length text
no_more_steps text names count steps w =
    let long = lines_long names steps in
    let all = length-append (first_lines count) (flat_map (step_line names) steps) in
    let same = ap length w.lines in
    omega (arith, long, all, same)

-- A line stands where it may, and so the steps of a text are well nested.
use Rattle.std.proofs.Common.{◌≡◌, ◌⊎◌, inl, inr, ℕ, ℤ, Bool, true, false, not, ◌&&◌, ◌||◌, if◌then◌else◌, Option, Some, None, List, [], ◌∷◌, ◌++◌, drop, refl, sym, subst}
use Rattle.std.specs.Option.{option_map}
use Rattle.linear.specs.declared.constraint.Signed.{Signed}
use Rattle.proof_steps.specs.declared.conclusion.Conclusion.{Conclusion}
use Rattle.proof_steps.specs.declared.step.GoalName.{GoalName}
use Rattle.proof_steps.specs.declared.step.Step.{Step}
use Rattle.proof_steps.specs.declared.step.Step.TheVariants as steps
use Rattle.proof_text.specs.declared.keyword.Rule.{Rule}
use Rattle.proof_text.specs.declared.keyword.Rule.TheVariants as rules
use Rattle.proof_text.specs.declared.line.Line.{Line}
use Rattle.proof_text.specs.declared.line.Line.TheVariants as lines
use Rattle.proof_text.specs.declared.line.Section.{Section}
use Rattle.proof_text.specs.declared.line.Section.TheVariants as sections
use Rattle.proof_text.specs.Words.{Halves, halves, unclosed, are_words, begins_integer, words}
use Rattle.proof_lines.specs.Lines.{Numbered}
use Rattle.proof_text.specs.Forms.{are_items, items_of, are_literals, literals_of, integers_of, are_images, images_of}
use Rattle.proof_text.specs.Frame.{header, count_of, output, ending}
use Rattle.proof_text.specs.Rules.{rule_of}
use Rattle.proof_text.specs.Steps.{constraint_of, rup_by, begins_block, red_step, red_with, red_by, is_deletion, goal_of, is_closing, step_by, step_of}
use Rattle.proof_text.specs.Conclusions.{conclusion_of}
use Rattle.proof_text.specs.Sections.{HasSteps, StepStands, LineStands, AreNested, behind_step}
use Rattle.proof_text.specs.Spells.{is_outside, is_block, is_goal, may_stand, step_at_section, line_of, IsLine}
use Rattle.proof_text.specs.ProofSpells.{AreSteps, SpellsProof}
use Rattle.proof_text.proofs.ByFirstWord.{step_with, misplaced_with}
use Rattle.proof_text.proofs.ReadIsWritable.{chosen}
use Rattle.proof_text.proofs.StepsRead.{red_parts}

-- the sections that the tests find
at_outside : (section : Section) → is_outside section ≡ true → section ≡ sections.Step
at_outside sections.Header h = cc
at_outside sections.Count h = cc
at_outside sections.Step h = refl
at_outside sections.Block h = cc
at_outside sections.Goal h = cc
at_outside sections.Conclusion h = cc
at_outside sections.End h = cc
at_outside sections.After h = cc

at_block : (section : Section) → is_block section ≡ true → section ≡ sections.Block
at_block sections.Header h = cc
at_block sections.Count h = cc
at_block sections.Step h = cc
at_block sections.Block h = refl
at_block sections.Goal h = cc
at_block sections.Conclusion h = cc
at_block sections.End h = cc
at_block sections.After h = cc

at_goal : (section : Section) → is_goal section ≡ true → section ≡ sections.Goal
at_goal sections.Header h = cc
at_goal sections.Count h = cc
at_goal sections.Step h = cc
at_goal sections.Block h = cc
at_goal sections.Goal h = refl
at_goal sections.Conclusion h = cc
at_goal sections.End h = cc
at_goal sections.After h = cc

either : (p q : Bool) → (p || q) ≡ true → (p ≡ true) ⊎ (q ≡ true)
either true q h = inl refl
either false q h = inr h

at_steps : (section : Section) → (is_outside section || is_block section || is_goal section) ≡ true → HasSteps section
at_steps section h = by (is_outside section) (is_block section) (is_goal section) refl refl refl h
  where
    by : (a b c : Bool) → is_outside section ≡ a → is_block section ≡ b → is_goal section ≡ c → (a || b || c) ≡ true → HasSteps section
    by true b c e f g h = inl (at_outside section e)
    by false true c e f g h = inr (inl (at_block section f))
    by false false true e f g h = inr (inr (at_goal section g))
    by false false false e f g h = cc

at_end : (section : Section) (numbered : Bool) → (is_goal section || (is_block section && not numbered)) ≡ true → (section ≡ sections.Block) ⊎ (section ≡ sections.Goal)
at_end section numbered h = by (is_goal section) (is_block section) refl refl h
  where
    by : (a b : Bool) → is_goal section ≡ a → is_block section ≡ b → (a || (b && not numbered)) ≡ true → (section ≡ sections.Block) ⊎ (section ≡ sections.Goal)
    by true b e f h = inr (at_goal section e)
    by false true e f h = inl (at_block section f)
    by false false e f h = cc

-- the steps that a rule's line can say
rup_stands : (section : Section) (names front : List (List ℕ)) (b : Option (List (List ℕ))) (step : Step) → HasSteps section → rup_by names front b ≡ Some step → StepStands section step
rup_stands section names front None step s h = cc
rup_stands section names front (Some hints) step s h = by (constraint_of names front) h
  where
    by : (o : Option Signed) → option_map (λ c. steps.Rup c) o ≡ Some step → StepStands section step
    by None h = cc
    by (Some c) h = let same : steps.Rup c ≡ step = cc in subst (StepStands section) same s

red_stands : (section : Section) (names front : List (List ℕ)) (b : Option (List (List ℕ))) (step : Step) → section ≡ sections.Step → red_by names front b ≡ Some step → StepStands section step
red_stands section names front None step s h = cc
red_stands section names front (Some witness) step s h = by (constraint_of names front) h
  where
    w : Halves
    w = halves witness

    of_block : (c : Signed) (block : Bool) → StepStands section (red_step c (images_of names w.front) block)
    of_block c true = s
    of_block c false = s

    by : (o : Option Signed) → red_with names w o ≡ Some step → StepStands section step
    by None h = cc
    by (Some c) h =
        let p = red_parts (are_images w.front) (begins_block w.behind) c (images_of names w.front) step h in
        subst (StepStands section) (sym p.3) (of_block c p.0)

goal_stands : (section : Section) (o : Option GoalName) (step : Step) → section ≡ sections.Block → option_map (λ x. steps.Goal x) o ≡ Some step → StepStands section step
goal_stands section None step s h = cc
goal_stands section (Some goal) step s h = let same : steps.Goal goal ≡ step = cc in subst (StepStands section) same s

rule_stands : (rule : Rule) (section : Section) (numbered : Bool) (names ws : List (List ℕ)) (step : Step) → may_stand rule section numbered ≡ true → step_by rule names ws ≡ Some step → StepStands section step
rule_stands rules.Pol section numbered names ws step m h = chosen (StepStands section) (are_items (unclosed ws)) (steps.Pol (items_of names (unclosed ws))) step h (λ t. at_steps section m)
rule_stands rules.Rup section numbered names ws step m h = rup_stands section names (halves ws).front (halves ws).behind step (at_steps section m) h
rule_stands rules.Red section numbered names ws step m h = red_stands section names (halves ws).front (halves ws).behind step (at_outside section m) h
rule_stands rules.Sol section numbered names ws step m h = chosen (StepStands section) (are_literals (unclosed ws)) (steps.Sol (literals_of names (unclosed ws))) step h (λ t. at_outside section m)
rule_stands rules.Soli section numbered names ws step m h = chosen (StepStands section) (are_literals (unclosed ws)) (steps.Soli (literals_of names (unclosed ws))) step h (λ t. at_outside section m)
rule_stands rules.Del section numbered names ws step m h = chosen (StepStands section) (is_deletion ws) (steps.Del (integers_of (unclosed (drop 1 ws)))) step h (λ t. at_outside section m)
rule_stands rules.Goal section numbered names ws step m h = goal_stands section (goal_of (unclosed ws)) step (at_block section m) h
rule_stands rules.End section numbered names ws step m h = chosen (StepStands section) (is_closing (unclosed ws)) steps.End step h (λ t. at_end section numbered m)

-- a step stands where it may
pub step_stands : (section : Section) (names ws : List (List ℕ)) (step : Step) → step_at_section section names ws ≡ Some step → StepStands section step
unfolding step_of
step_stands section names [] step h = cc
step_stands section names (w ∷ rest) step h = by (rule_of w) h
  where
    placed : (rule : Rule) (m : Bool) → may_stand rule section (begins_integer rest) ≡ m → (if not m then None else step_by rule names rest) ≡ Some step → StepStands section step
    placed rule true e f = rule_stands rule section (begins_integer rest) names rest step e f
    placed rule false e f = cc

    by : (o : Option Rule) → (if misplaced_with section rest o then None else step_with names rest o) ≡ Some step → StepStands section step
    by None h = cc
    by (Some rule) h = placed rule (may_stand rule section (begins_integer rest)) refl h

step_line_stands : (section : Section) (names ws : List (List ℕ)) (line : Line) → option_map (λ s. lines.Step s) (step_at_section section names ws) ≡ Some line → LineStands section line
step_line_stands section names ws line h = by (step_at_section section names ws) refl h
  where
    by : (o : Option Step) → step_at_section section names ws ≡ o → option_map (λ s. lines.Step s) o ≡ Some line → LineStands section line
    by None e h = cc
    by (Some step) e h = let same : lines.Step step ≡ line = cc in subst (LineStands section) same (step_stands section names ws step e)

-- so does a line
line_stands : (section : Section) (names ws : List (List ℕ)) (line : Line) → line_of section names ws ≡ Some line → LineStands section line
line_stands sections.Header names ws line h = chosen (LineStands sections.Header) (are_words header (unclosed ws)) lines.Header line h (λ t. refl)
line_stands sections.Count names ws line h = by (count_of (unclosed ws)) h
  where
    by : (o : Option ℤ) → option_map (λ n. lines.Count n) o ≡ Some line → LineStands sections.Count line
    by None h = cc
    by (Some n) h = let same : lines.Count n ≡ line = cc in subst (LineStands sections.Count) same refl
line_stands sections.Step names ws line h = by (are_words output (unclosed ws)) h
  where
    by : (t : Bool) → (if t then Some lines.Output else option_map (λ s. lines.Step s) (step_at_section sections.Step names ws)) ≡ Some line → LineStands sections.Step line
    by true h = let same : lines.Output ≡ line = cc in subst (LineStands sections.Step) same refl
    by false h = step_line_stands sections.Step names ws line h
line_stands sections.Block names ws line h = step_line_stands sections.Block names ws line h
line_stands sections.Goal names ws line h = step_line_stands sections.Goal names ws line h
line_stands sections.Conclusion names ws line h = by (conclusion_of names ws) h
  where
    by : (o : Option Conclusion) → option_map (λ c. lines.Conclusion c) o ≡ Some line → LineStands sections.Conclusion line
    by None h = cc
    by (Some c) h = let same : lines.Conclusion c ≡ line = cc in subst (LineStands sections.Conclusion) same refl
line_stands sections.End names ws line h = chosen (LineStands sections.End) (are_words ending (unclosed ws)) lines.End line h (λ t. refl)
line_stands sections.After names ws line h = cc

pub placed : (section : Section) (old ws : List (List ℕ)) (line : Line) (new : List (List ℕ)) → IsLine section old ws line new → LineStands section line
placed section old ws line new is = line_stands section new ws line is.says

-- the steps of lines are well nested
pub nested : (section : Section) (old : List (List ℕ)) (ls : List Numbered) (xs : List Step) (new : List (List ℕ)) → AreSteps section old ls xs new → AreNested section xs
nested section old [] [] new a = a.0
nested section old [] (x ∷ xs) new a = absurd a
nested section old (l ∷ ls) [] new a = absurd a
nested section old (l ∷ ls) (x ∷ xs) new a = (placed section old (words l.text) (lines.Step x) a.0 a.1, nested (behind_step section x) a.0 ls xs new a.2)

pub proof_nested : (text : List ℕ) (file : List (List ℕ)) (count : ℤ) (xs : List Step) (c : Conclusion) → SpellsProof text file count xs c → AreNested sections.Step xs
proof_nested text file count xs c p = nested sections.Step file p.between xs p.named p.steps_are

-- a step more that stands outside blocks and opens none
pub nested_more : (section : Section) (xs : List Step) (x : Step) → AreNested section xs → StepStands sections.Step x → behind_step sections.Step x ≡ sections.Step → AreNested section (xs ++ x ∷ [])
nested_more section [] x n stands behind = subst (λ q. AreNested q (x ∷ [])) (sym n) (stands, behind)
nested_more section (y ∷ ys) x n stands behind = (n.0, nested_more (behind_step section y) ys x n.1 stands behind)

-- Whole proofs, line by line, by computing.
use Rattle.std.proofs.Common.{◌≡◌, ℕ, pos, Option, Some, None, List, [], ◌∷◌, ◌++◌, length, length-append, drop, refl, sym, subst, ap, ◌∙◌, codes, arith}
use Rattle.pb_text.specs.Lexeme.{lexemes, lexemes_from, kind_of, kind_of_word}
use Rattle.pb_text.specs.Word.{is_integer as integer_word, is_literal as literal_word, is_misspelt}
use Rattle.pb_text.specs.Name.{is_name}
use Rattle.pb_text.specs.Number.{integer_size, integer_value}
use Rattle.proof_steps.specs.declared.step.Item.TheVariants.{Id, Axiom, Add, Weaken}
use Rattle.proof_steps.specs.declared.step.GoalName.TheVariants as goals
use Rattle.proof_steps.specs.declared.step.Step.{Step}
use Rattle.proof_steps.specs.declared.step.Step.TheVariants as steps
use Rattle.proof_steps.specs.declared.conclusion.Conclusion.TheVariants as conclusions
use Rattle.proof_lines.specs.Lines.{Numbered, counting_from}
use Rattle.proof_text.specs.Words.{words}
use Rattle.proof_text.specs.Rules.{rule_of}
use Rattle.proof_text.specs.Steps.{step_of, counted as step_words_counted}
use Rattle.proof_text.specs.Conclusions.{conclusion_kind_of, conclusion_of, conclusion_literals}
use Rattle.proof_text.specs.Spells.{line_of, measured, IsLine}
use Rattle.proof_text.specs.Sections.{behind_step}
use Rattle.proof_text.specs.ProofSpells.{AreSteps, SpellsProof}
use Rattle.proof_text.specs.declared.line.Line.{Line}
use Rattle.proof_text.specs.declared.line.Line.TheVariants as lines
use Rattle.proof_text.specs.declared.line.Section.TheVariants.{Step as StepSection, Block, Goal as GoalSection, Conclusion as ConclusionSection, End}
use Rattle.proof_text.specs.Cases.{file, variable, plain, negated, line_at, improving_proof, improving_steps, one_and_one, growing_proof, growing_steps, growing_conclusion, nested_proof, nested_steps, at_least, IsNoProof}
use Rattle.proof_text.proofs.Computed.{spells, all_small}
use Rattle.proof_text.proofs.OneReading.{one_parting}

-- whole proofs
pub improving_spelt : SpellsProof improving_proof file (pos 1) improving_steps one_and_one
unfolding counting_from words step_of step_words_counted rule_of conclusion_of conclusion_literals conclusion_kind_of lexemes lexemes_from kind_of kind_of_word integer_word literal_word is_misspelt is_name integer_size integer_value
improving_spelt = record {
  header = line_at 1 (codes "pseudo-Boolean proof version 2.0");
  counted = line_at 2 (codes "f 1");
  output = line_at 5 (codes "output NONE");
  concluded = line_at 6 (codes "conclusion BOUNDS 1 1");
  ended = line_at 7 (codes "end pseudo-Boolean proof");
  between = line_at 3 (codes "soli x1 ~x2") ∷ line_at 4 (codes "pol 1 2 +") ∷ [];
  in_order = refl;
  named = file;
  after = file;
  all = file;
  header_is = spells refl refl tt refl (omega arith);
  count_is = spells refl refl tt refl (omega arith);
  steps_are = (file, spells refl refl tt refl (omega arith), (file, spells refl refl tt refl (omega arith), (refl, refl)));
  output_is = spells refl refl tt refl (omega arith);
  conclusion_is = spells refl refl tt refl (omega arith);
  end_is = spells refl refl tt refl (omega arith);
}

abbrev with_third : List (List ℕ)
with_third = file ++ codes "x3" ∷ []

abbrev with_fourth : List (List ℕ)
with_fourth = file ++ codes "x3" ∷ codes "x4" ∷ []

abbrev with_fifth : List (List ℕ)
with_fifth = file ++ codes "x3" ∷ codes "x4" ∷ codes "x5" ∷ []

third_met : IsLine StepSection file (words (codes "pol 1 ~x3 +")) (lines.Step (steps.Pol (Id (pos 1) ∷ Axiom (negated 2) ∷ Add ∷ []))) with_third
unfolding words step_of step_words_counted rule_of lexemes lexemes_from kind_of kind_of_word integer_word literal_word is_misspelt is_name integer_size integer_value
third_met = spells refl refl tt refl (omega arith)

fourth_met : IsLine StepSection with_third (words (codes "pol x4 x3 w ;")) (lines.Step (steps.Pol (Axiom (plain 3) ∷ Weaken (variable 2) ∷ []))) with_fourth
unfolding words step_of step_words_counted rule_of lexemes lexemes_from kind_of kind_of_word integer_word literal_word is_misspelt is_name integer_size integer_value
fourth_met = spells refl refl tt refl (omega arith)

fifth_met : IsLine ConclusionSection with_fourth (words (codes "conclusion SAT : x5 ~x3")) (lines.Conclusion (conclusions.Sat (Some (plain 4 ∷ negated 2 ∷ [])))) with_fifth
unfolding words conclusion_of conclusion_literals conclusion_kind_of lexemes lexemes_from kind_of kind_of_word integer_word literal_word is_misspelt is_name
fifth_met = record { names = refl; few = omega arith; says = refl; proper = tt; small = all_small (measured ConclusionSection (words (codes "conclusion SAT : x5 ~x3"))) refl }

output_among : IsLine StepSection with_fourth (words (codes "output NONE ;")) lines.Output with_fourth
unfolding words step_of step_words_counted rule_of lexemes lexemes_from kind_of kind_of_word integer_word literal_word is_misspelt is_name integer_size integer_value
output_among = spells refl refl tt refl (omega arith)

-- each line's new names stand behind those of the lines before; comments and blank lines part the lines, and the last has no LF
pub growing_spelt : SpellsProof growing_proof file (pos 3) growing_steps growing_conclusion
unfolding counting_from words step_of step_words_counted lexemes lexemes_from kind_of kind_of_word integer_word literal_word is_misspelt is_name integer_size integer_value
growing_spelt = record {
  header = line_at 2 (codes "pseudo-Boolean proof version 2.0;");
  counted = line_at 3 (codes "f 3 ;");
  output = line_at 8 (codes "output NONE ;");
  concluded = line_at 9 (codes "conclusion SAT : x5 ~x3");
  ended = line_at 11 (codes "end pseudo-Boolean proof");
  between = line_at 5 (codes "pol 1 ~x3 +") ∷ line_at 7 (codes "pol x4 x3 w ;") ∷ [];
  in_order = refl;
  named = with_fourth;
  after = with_fourth;
  all = with_fifth;
  header_is = spells refl refl tt refl (omega arith);
  count_is = spells refl refl tt refl (omega arith);
  steps_are = (with_third, third_met, (with_fourth, fourth_met, (refl, refl)));
  output_is = output_among;
  conclusion_is = fifth_met;
  end_is = spells refl refl tt refl (omega arith);
}

block_begun : IsLine StepSection file (words (codes "red >= 1 ; ; begin")) (lines.Step (steps.RedBegin (at_least [] (pos 1)) [])) file
unfolding words step_of step_words_counted rule_of lexemes lexemes_from kind_of kind_of_word integer_word literal_word is_misspelt is_name integer_size integer_value
block_begun = record { names = refl; few = omega arith; says = refl; proper = λ i j d lt below. absurd (omega arith); small = all_small (measured StepSection (words (codes "red >= 1 ; ; begin"))) refl }

goal_begun : IsLine Block file (words (codes "proofgoal #1")) (lines.Step (steps.Goal goals.Itself)) file
unfolding words step_of step_words_counted rule_of lexemes lexemes_from kind_of kind_of_word integer_word literal_word is_misspelt is_name integer_size integer_value
goal_begun = spells refl refl tt refl (omega arith)

derived_inside : IsLine GoalSection file (words (codes "pol 1 2 +")) (lines.Step (steps.Pol (Id (pos 1) ∷ Id (pos 2) ∷ Add ∷ []))) file
unfolding words step_of step_words_counted rule_of lexemes lexemes_from kind_of kind_of_word integer_word literal_word is_misspelt is_name integer_size integer_value
derived_inside = spells refl refl tt refl (omega arith)

goal_ended : IsLine GoalSection file (words (codes "end 8")) (lines.Step steps.End) file
unfolding words step_of step_words_counted rule_of lexemes lexemes_from kind_of kind_of_word integer_word literal_word is_misspelt is_name integer_size integer_value
goal_ended = spells refl refl tt refl (omega arith)

shown_inside : IsLine Block file (words (codes "rup >= 0 ;")) (lines.Step (steps.Rup (at_least [] (pos 0)))) file
unfolding words step_of step_words_counted rule_of lexemes lexemes_from kind_of kind_of_word integer_word literal_word is_misspelt is_name integer_size integer_value
shown_inside = spells refl refl tt refl (omega arith)

block_ended : IsLine Block file (words (codes "end")) (lines.Step steps.End) file
unfolding words step_of step_words_counted rule_of lexemes lexemes_from kind_of kind_of_word integer_word literal_word is_misspelt is_name integer_size integer_value
block_ended = spells refl refl tt refl (omega arith)

-- a block with a goal: the section is threaded from line to line
pub nested_spelt : SpellsProof nested_proof file (pos 5) nested_steps conclusions.Unsat
unfolding counting_from words step_of step_words_counted rule_of conclusion_of conclusion_literals conclusion_kind_of lexemes lexemes_from kind_of kind_of_word integer_word literal_word is_misspelt is_name integer_size integer_value
nested_spelt = record {
  header = line_at 1 (codes "pseudo-Boolean proof version 2.0");
  counted = line_at 2 (codes "f 5");
  output = line_at 9 (codes "output NONE");
  concluded = line_at 10 (codes "conclusion UNSAT : 9");
  ended = line_at 11 (codes "end pseudo-Boolean proof");
  between =
      line_at 3 (codes "red >= 1 ; ; begin")
      ∷ line_at 4 (codes "proofgoal #1")
      ∷ line_at 5 (codes "pol 1 2 +")
      ∷ line_at 6 (codes "end 8")
      ∷ line_at 7 (codes "rup >= 0 ;")
      ∷ line_at 8 (codes "end")
      ∷ [];
  in_order = refl;
  named = file;
  after = file;
  all = file;
  header_is = spells refl refl tt refl (omega arith);
  count_is = spells refl refl tt refl (omega arith);
  steps_are =
      (file, block_begun, (file, goal_begun, (file, derived_inside, (file, goal_ended, (file, shown_inside, (file, block_ended, (refl, refl)))))));
  output_is = spells refl refl tt refl (omega arith);
  conclusion_is = spells refl refl tt refl (omega arith);
  end_is = spells refl refl tt refl (omega arith);
}

three_are_due : (between : List Numbered) (a b c x y : Numbered) → between ++ a ∷ b ∷ c ∷ [] ≡ x ∷ y ∷ [] → ⊥
three_are_due between a b c x y h =
    let count : length (between ++ a ∷ b ∷ c ∷ []) ≡ 2 = ap length h in
    absurd (omega (arith, length-append between (a ∷ b ∷ c ∷ []), count))

last_three : (between : List Numbered) (a b c w x y z : Numbered) → between ++ a ∷ b ∷ c ∷ [] ≡ w ∷ x ∷ y ∷ z ∷ [] → (a ≡ x) × (b ≡ y) × (c ≡ z)
last_three [] a b c w x y z h = absurd cc
last_three (m ∷ []) a b c w x y z h = (cc, cc, cc)
last_three (m ∷ n ∷ between) a b c w x y z h =
    let count : length (m ∷ n ∷ between ++ a ∷ b ∷ c ∷ []) ≡ 4 = ap length h in
    absurd (omega (arith, length-append between (a ∷ b ∷ c ∷ []), count))

-- a proof has an end line
pub no_end : IsNoProof (codes "pseudo-Boolean proof version 2.0\nf 1\noutput NONE\nconclusion NONE\n")
unfolding counting_from lexemes lexemes_from
no_end names count all c s =
    three_are_due s.between s.output s.concluded s.ended (line_at 3 (codes "output NONE")) (line_at 4 (codes "conclusion NONE")) (sym (ap (λ ls. drop 2 ls) s.in_order))

-- nothing that counts stands behind it
pub text_behind : IsNoProof (codes "pseudo-Boolean proof version 2.0\nf 1\noutput NONE\nconclusion NONE\nend pseudo-Boolean proof\npol 1\n")
unfolding counting_from words lexemes lexemes_from kind_of kind_of_word integer_word literal_word is_misspelt is_name
text_behind names count all c s =
    let same = last_three s.between s.output s.concluded s.ended (line_at 3 (codes "output NONE")) (line_at 4 (codes "conclusion NONE")) (line_at 5 (codes "end pseudo-Boolean proof")) (line_at 6 (codes "pol 1")) (sym (ap (λ ls. drop 2 ls) s.in_order)) in
    let says : line_of End s.all (words (codes "pol 1")) ≡ Some lines.End = subst (λ (l : Numbered). line_of End s.all (words l.text) ≡ Some lines.End) same.2 s.end_is.says in
    let both : ◌≡◌ {A = Option Line} None (Some lines.End) = says in
    absurd cc

-- no step stands behind the output line
pub step_behind : IsNoProof (codes "pseudo-Boolean proof version 2.0\nf 1\noutput NONE\npol 1\nconclusion NONE\nend pseudo-Boolean proof\n")
unfolding counting_from words step_of rule_of lexemes lexemes_from kind_of kind_of_word integer_word literal_word is_misspelt is_name integer_size integer_value
step_behind names count all c s =
    let same = last_three s.between s.output s.concluded s.ended (line_at 3 (codes "output NONE")) (line_at 4 (codes "pol 1")) (line_at 5 (codes "conclusion NONE")) (line_at 6 (codes "end pseudo-Boolean proof")) (sym (ap (λ ls. drop 2 ls) s.in_order)) in
    let says : line_of StepSection s.after (words (codes "pol 1")) ≡ Some lines.Output = subst (λ (l : Numbered). line_of StepSection s.after (words l.text) ≡ Some lines.Output) same.0 s.output_is.says in
    let both : ◌≡◌ {A = Option Line} (Some (lines.Step (steps.Pol (Id (pos 1) ∷ [])))) (Some lines.Output) = says in
    absurd cc

-- a block is closed before the output line
no_block_behind : (x : Step) (names new : List (List ℕ)) (more : List Step) (last : List (List ℕ)) → IsLine StepSection names (words (codes "red >= 1 ; ; begin")) (lines.Step x) new
    → AreSteps (behind_step StepSection x) new [] more last → ⊥
unfolding words step_of rule_of lexemes lexemes_from kind_of kind_of_word integer_word literal_word is_misspelt is_name integer_size integer_value
no_block_behind x names new (y ∷ more) last is rest = rest
no_block_behind x names new [] last is rest =
    let says : ◌≡◌ {A = Option Line} (Some (lines.Step (steps.RedBegin (at_least [] (pos 1)) []))) (Some (lines.Step x)) = is.says in
    let same : x ≡ steps.RedBegin (at_least [] (pos 1)) [] = cc in
    let left : Block ≡ StepSection = sym (ap (behind_step StepSection) same) ∙ rest.0 in
    absurd cc

no_steps_open : (line : Numbered) (names : List (List ℕ)) (all : List Step) (last : List (List ℕ)) → line ≡ line_at 3 (codes "red >= 1 ; ; begin") → AreSteps StepSection names (line ∷ []) all last → ⊥
no_steps_open line names [] last e are = are
no_steps_open line names (x ∷ more) last e are =
    no_block_behind x names are.0 more last (subst (λ (l : Numbered). IsLine StepSection names (words l.text) (lines.Step x) are.0) e are.1) are.2

pub block_open : IsNoProof (codes "pseudo-Boolean proof version 2.0\nf 1\nred >= 1 ; ; begin\noutput NONE\nconclusion NONE\nend pseudo-Boolean proof\n")
unfolding counting_from lexemes lexemes_from
block_open names count all c s =
    let line = line_at 3 (codes "red >= 1 ; ; begin") in
    let parts = one_parting s.between (line ∷ []) s.output s.concluded s.ended (line_at 4 (codes "output NONE")) (line_at 5 (codes "conclusion NONE")) (line_at 6 (codes "end pseudo-Boolean proof")) (sym (ap (λ ls. drop 2 ls) s.in_order)) in
    no_steps_open line names all s.named refl (subst (λ ls. AreSteps StepSection names ls all s.named) parts.0 s.steps_are)

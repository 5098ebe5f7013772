use Rattle.std.proofs.Common.{refl, codes, arith}
use Rattle.pb_text.specs.Lexeme.{lexemes, lexemes_from, kind_of, kind_of_word}
use Rattle.pb_text.specs.Word.{is_integer as integer_word, is_literal as literal_word, is_misspelt}
use Rattle.pb_text.specs.Name.{is_name}
use Rattle.pb_text.specs.Number.{integer_size, integer_value}
use Rattle.substitution.specs.declared.image.Image.TheVariants as images
use Rattle.proof_text.specs.Words.{words}
use Rattle.proof_text.specs.Rules.{rule_of}
use Rattle.proof_text.specs.Steps.{step_of, counted}
use Rattle.proof_text.specs.Spells.{measured}
use Rattle.proof_text.specs.declared.line.Section.TheVariants as sections
use Rattle.proof_text.proofs.Computed.{all_small, one_left}
use Rattle.proof_text.proofs.cases.subproofs.Goals as goal

pub returns-clause-block : goal.returns-clause-block
unfolding words step_of counted rule_of lexemes lexemes_from kind_of kind_of_word integer_word literal_word is_misspelt is_name integer_size integer_value
returns-clause-block c = record { names = refl; few = omega arith; says = refl; proper = one_left images.One; small = all_small (measured sections.Step (words (codes "red 1 x1 >= 1 ; x1 -> 1 ; begin"))) refl }

pub returns-clause-block_closed : goal.returns-clause-block_closed
unfolding words step_of counted rule_of lexemes lexemes_from kind_of kind_of_word integer_word literal_word is_misspelt is_name integer_size integer_value
returns-clause-block_closed c = record { names = refl; few = omega arith; says = refl; proper = one_left images.Zero; small = all_small (measured sections.Step (words (codes "red >= 1 ; x1 0 ; begin ;"))) refl }

pub returns-clause-block_without_images : goal.returns-clause-block_without_images
unfolding words step_of counted rule_of lexemes lexemes_from kind_of kind_of_word integer_word literal_word is_misspelt is_name integer_size integer_value
returns-clause-block_without_images c = record { names = refl; few = omega arith; says = refl; proper = λ i j d lt below. absurd (omega arith); small = all_small (measured sections.Step (words (codes "red >= 1 ; ; begin"))) refl }

pub returns-clause-goal_of_id : goal.returns-clause-goal_of_id
unfolding words step_of counted rule_of lexemes lexemes_from kind_of kind_of_word integer_word literal_word is_misspelt is_name integer_size integer_value
returns-clause-goal_of_id c = record { names = refl; few = omega arith; says = refl; proper = tt; small = all_small (measured sections.Block (words (codes "proofgoal 3"))) refl }

pub returns-clause-goal_of_newest : goal.returns-clause-goal_of_newest
unfolding words step_of counted rule_of lexemes lexemes_from kind_of kind_of_word integer_word literal_word is_misspelt is_name integer_size integer_value
returns-clause-goal_of_newest c = record { names = refl; few = omega arith; says = refl; proper = tt; small = all_small (measured sections.Block (words (codes "proofgoal -1 ;"))) refl }

pub returns-clause-goal_of_itself : goal.returns-clause-goal_of_itself
unfolding words step_of counted rule_of lexemes lexemes_from kind_of kind_of_word integer_word literal_word is_misspelt is_name integer_size integer_value
returns-clause-goal_of_itself c = record { names = refl; few = omega arith; says = refl; proper = tt; small = all_small (measured sections.Block (words (codes "proofgoal #1"))) refl }

pub returns-clause-goal_of_objective : goal.returns-clause-goal_of_objective
unfolding words step_of counted rule_of lexemes lexemes_from kind_of kind_of_word integer_word literal_word is_misspelt is_name integer_size integer_value
returns-clause-goal_of_objective c = record { names = refl; few = omega arith; says = refl; proper = tt; small = all_small (measured sections.Block (words (codes "proofgoal #2 ;"))) refl }

pub returns-clause-derived_in_block : goal.returns-clause-derived_in_block
unfolding words step_of counted rule_of lexemes lexemes_from kind_of kind_of_word integer_word literal_word is_misspelt is_name integer_size integer_value
returns-clause-derived_in_block c = record { names = refl; few = omega arith; says = refl; proper = tt; small = all_small (measured sections.Block (words (codes "pol 1 2 +"))) refl }

pub returns-clause-shown_in_goal : goal.returns-clause-shown_in_goal
unfolding words step_of counted rule_of lexemes lexemes_from kind_of kind_of_word integer_word literal_word is_misspelt is_name integer_size integer_value
returns-clause-shown_in_goal c = record { names = refl; few = omega arith; says = refl; proper = tt; small = all_small (measured sections.Goal (words (codes "u >= 1 ;"))) refl }

pub returns-clause-end_of_goal : goal.returns-clause-end_of_goal
unfolding words step_of counted rule_of lexemes lexemes_from kind_of kind_of_word integer_word literal_word is_misspelt is_name integer_size integer_value
returns-clause-end_of_goal c = record { names = refl; few = omega arith; says = refl; proper = tt; small = all_small (measured sections.Goal (words (codes "end"))) refl }

pub returns-clause-end_of_goal_by_id : goal.returns-clause-end_of_goal_by_id
unfolding words step_of counted rule_of lexemes lexemes_from kind_of kind_of_word integer_word literal_word is_misspelt is_name integer_size integer_value
returns-clause-end_of_goal_by_id c = record { names = refl; few = omega arith; says = refl; proper = tt; small = all_small (measured sections.Goal (words (codes "end 8 ;"))) refl }

pub returns-clause-end_of_block : goal.returns-clause-end_of_block
unfolding words step_of counted rule_of lexemes lexemes_from kind_of kind_of_word integer_word literal_word is_misspelt is_name integer_size integer_value
returns-clause-end_of_block c = record { names = refl; few = omega arith; says = refl; proper = tt; small = all_small (measured sections.Block (words (codes "end ;"))) refl }

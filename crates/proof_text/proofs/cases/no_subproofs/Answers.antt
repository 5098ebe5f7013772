use Rattle.std.proofs.Common.{refl, codes, arith, ◌+◌, ◌≤◌, []}
use Rattle.pb_text.specs.Lexeme.{lexemes, lexemes_from, kind_of, kind_of_word}
use Rattle.pb_text.specs.Word.{is_integer as integer_word, is_literal as literal_word, is_misspelt}
use Rattle.pb_text.specs.Name.{is_name}
use Rattle.pb_text.specs.Number.{integer_size, integer_value, largest_number}
use Rattle.proof_text.specs.Words.{words}
use Rattle.proof_text.specs.Rules.{rule_of}
use Rattle.proof_text.specs.Steps.{step_of, counted}
use Rattle.proof_text.specs.declared.line.Section.TheVariants as sections
use Rattle.proof_text.proofs.Computed.{nothing}
use Rattle.proof_text.proofs.cases.no_subproofs.Goals as goal

pub returns-clause-begin_at_once : goal.returns-clause-begin_at_once
unfolding words step_of counted rule_of lexemes lexemes_from kind_of kind_of_word integer_word literal_word is_misspelt is_name integer_size integer_value
returns-clause-begin_at_once c = nothing sections.Step (codes "red 1 x1 >= 1 ; begin") (λ names. refl)

pub returns-clause-more_than_begin : goal.returns-clause-more_than_begin
unfolding words step_of counted rule_of lexemes lexemes_from kind_of kind_of_word integer_word literal_word is_misspelt is_name integer_size integer_value
returns-clause-more_than_begin c = nothing sections.Step (codes "red 1 x1 >= 1 ; ; begin x1") (λ names. refl)

pub returns-clause-three_semicolons : goal.returns-clause-three_semicolons
unfolding words step_of counted rule_of lexemes lexemes_from kind_of kind_of_word integer_word literal_word is_misspelt is_name integer_size integer_value
returns-clause-three_semicolons c = nothing sections.Step (codes "red 1 x1 >= 1 ; ; ; begin") (λ names. refl)

pub returns-clause-goal_outside : goal.returns-clause-goal_outside
unfolding words step_of counted rule_of lexemes lexemes_from kind_of kind_of_word integer_word literal_word is_misspelt is_name integer_size integer_value
returns-clause-goal_outside c = nothing sections.Step (codes "proofgoal #1") (λ names. refl)

pub returns-clause-goal_in_goal : goal.returns-clause-goal_in_goal
unfolding words step_of counted rule_of lexemes lexemes_from kind_of kind_of_word integer_word literal_word is_misspelt is_name integer_size integer_value
returns-clause-goal_in_goal c = nothing sections.Goal (codes "proofgoal #1") (λ names. refl)

pub returns-clause-third_goal : goal.returns-clause-third_goal
unfolding words step_of counted rule_of lexemes lexemes_from kind_of kind_of_word integer_word literal_word is_misspelt is_name integer_size integer_value
returns-clause-third_goal c = nothing sections.Block (codes "proofgoal #3") (λ names. refl)

pub returns-clause-no_goal : goal.returns-clause-no_goal
unfolding words step_of counted rule_of lexemes lexemes_from kind_of kind_of_word integer_word literal_word is_misspelt is_name integer_size integer_value
returns-clause-no_goal c = nothing sections.Block (codes "proofgoal") (λ names. refl)

pub returns-clause-two_goals : goal.returns-clause-two_goals
unfolding words step_of counted rule_of lexemes lexemes_from kind_of kind_of_word integer_word literal_word is_misspelt is_name integer_size integer_value
returns-clause-two_goals c = nothing sections.Block (codes "proofgoal 1 2") (λ names. refl)

pub returns-clause-goal_of_name : goal.returns-clause-goal_of_name
unfolding words step_of counted rule_of lexemes lexemes_from kind_of kind_of_word integer_word literal_word is_misspelt is_name integer_size integer_value
returns-clause-goal_of_name c = nothing sections.Block (codes "proofgoal x1") (λ names. refl)

pub returns-clause-end_outside : goal.returns-clause-end_outside
unfolding words step_of counted rule_of lexemes lexemes_from kind_of kind_of_word integer_word literal_word is_misspelt is_name integer_size integer_value
returns-clause-end_outside c = nothing sections.Step (codes "end") (λ names. refl)

pub returns-clause-end_of_block_by_id : goal.returns-clause-end_of_block_by_id
unfolding words step_of counted rule_of lexemes lexemes_from kind_of kind_of_word integer_word literal_word is_misspelt is_name integer_size integer_value
returns-clause-end_of_block_by_id c = nothing sections.Block (codes "end 8") (λ names. refl)

pub returns-clause-end_by_two_ids : goal.returns-clause-end_by_two_ids
unfolding words step_of counted rule_of lexemes lexemes_from kind_of kind_of_word integer_word literal_word is_misspelt is_name integer_size integer_value
returns-clause-end_by_two_ids c = nothing sections.Goal (codes "end 8 9") (λ names. refl)

pub returns-clause-end_of_proof_in_block : goal.returns-clause-end_of_proof_in_block
unfolding words step_of counted rule_of lexemes lexemes_from kind_of kind_of_word integer_word literal_word is_misspelt is_name integer_size integer_value
returns-clause-end_of_proof_in_block c = nothing sections.Block (codes "end pseudo-Boolean proof") (λ names. refl)

pub returns-clause-block_in_block : goal.returns-clause-block_in_block
unfolding words step_of counted rule_of lexemes lexemes_from kind_of kind_of_word integer_word literal_word is_misspelt is_name integer_size integer_value
returns-clause-block_in_block c = nothing sections.Block (codes "red >= 1 ; ; begin") (λ names. refl)

pub returns-clause-solution_in_block : goal.returns-clause-solution_in_block
unfolding words step_of counted rule_of lexemes lexemes_from kind_of kind_of_word integer_word literal_word is_misspelt is_name integer_size integer_value
returns-clause-solution_in_block c = nothing sections.Block (codes "sol x1") (λ names. refl)

pub returns-clause-deletion_in_goal : goal.returns-clause-deletion_in_goal
unfolding words step_of counted rule_of lexemes lexemes_from kind_of kind_of_word integer_word literal_word is_misspelt is_name integer_size integer_value
returns-clause-deletion_in_goal c = nothing sections.Goal (codes "del id 1") (λ names. refl)

pub returns-clause-output_in_block : goal.returns-clause-output_in_block
unfolding words step_of counted rule_of lexemes lexemes_from kind_of kind_of_word integer_word literal_word is_misspelt is_name integer_size integer_value
returns-clause-output_in_block c = nothing sections.Block (codes "output NONE") (λ names. refl)

pub returns-clause-goal_too_large : goal.returns-clause-goal_too_large
unfolding words step_of counted rule_of lexemes lexemes_from kind_of kind_of_word integer_word literal_word is_misspelt is_name integer_size integer_value
returns-clause-goal_too_large c old line new l = let small : largest_number + 1 ≤ largest_number = l.small 0 [] (omega arith) refl in
    absurd (omega (arith, small))

pub returns-clause-end_too_large : goal.returns-clause-end_too_large
unfolding words step_of counted rule_of lexemes lexemes_from kind_of kind_of_word integer_word literal_word is_misspelt is_name integer_size integer_value
returns-clause-end_too_large c old line new l = let small : largest_number + 1 ≤ largest_number = l.small 0 [] (omega arith) refl in
    absurd (omega (arith, small))
